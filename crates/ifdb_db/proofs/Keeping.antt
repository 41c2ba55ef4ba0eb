-- What stays true of desks and clients.
use Rattle.std.proofs.Common.{◌≡◌, ℕ, zero, suc, ◌+◌, ◌≤◌, Bool, true, List, [], ◌∷◌, ◌++◌, length, sym, subst, arith, Option, Some, None}
use Rattle.std.specs.Prelude.{slice_index_or, slice_set, All}
use Rattle.std.specs.List.{list_all}
use Rattle.std.proofs.lemmas.Bool.Decides.{nat_tests}
use Rattle.ifdb_value.proofs.Lists.{all_wider}
use Rattle.ifdb_label.specs.Tags.{are_made, AreMade}
use Rattle.ifdb_row.specs.declared.write.Write.{Write}
use Rattle.ifdb_row.specs.declared.commit.Commit.{Commit}
use Rattle.ifdb_row.specs.Writes.{are_fitting}
use Rattle.ifdb_row.specs.Content.{are_rooted}
use Rattle.ifdb_store.specs.Later.{are_writes_made}
use Rattle.ifdb_bound.specs.declared.request.Change.{Change}
use Rattle.ifdb_catalog.specs.Public.{Public, changed}
use Rattle.ifdb_model.specs.Log.{Entry, changes, commits}
use Rattle.ifdb_model.specs.Session.{Seen, Session}
use Rattle.ifdb_model.specs.Step.{Outcome}
use Rattle.ifdb_snapshot.specs.Sound.{is_sound}
use Rattle.ifdb_snapshot.specs.Writing.{is_fit, are_fit}
use Rattle.ifdb_snapshot.proofs.PublicStates.{all_push, made_more, tags_grow}
use Rattle.ifdb_snapshot.proofs.Sound.{sound_changed, sound_written, write_changed}
use Rattle.ifdb_db.specs.Client.{Open, Client}
use Rattle.ifdb_db.specs.Desk.{Desk, oldest, settled, with_entry, moved}
use Rattle.ifdb_db.specs.Kept.{IsSound, Outgrows, Began, IsBegun, IsLabelKept, IsKept, IsHeld, AreHeld, are_ordered, keeps_parents}
use Rattle.ifdb_db.proofs.BeginLaws.{trimmed_later, trimmed_all, ordered_more}

-- ---- public states that grow

pub outgrows_changed : (p q : Public) (c : Change) → Outgrows p q → Outgrows p (changed q c)
outgrows_changed p q c g = record {
  tags = let le = tags_grow q c in let more = g.tags in omega (arith, le, more);
  writes = λ w h. write_changed q c w (g.writes w h);
}

pub outgrows_by : (p : Public) (x : Seen) (d : Desk) (e : Option Entry) → Outgrows p d.seen.public → Outgrows p (with_entry d e).seen.public
outgrows_by p x d None g = g
outgrows_by p x d (Some (changes c)) g = outgrows_changed p d.seen.public c g
outgrows_by p x d (Some (commits ws)) g = g

-- writes that fitted an earlier public state
pub fit_later : (p q : Public) (ws : List Write) → Outgrows p q → are_fit p ws ≡ true → are_fit q ws ≡ true
fit_later p q ws g h = all_wider (is_fit p) (is_fit q) ws g.writes h

-- ---- clients

tags_by : (d : Desk) (e : Option Entry) → length d.seen.public.tags ≤ length (with_entry d e).seen.public.tags
tags_by d None = omega arith
tags_by d (Some (changes c)) = tags_grow d.seen.public c
tags_by d (Some (commits ws)) = omega arith

pub label_kept_by : (d : Desk) (e : Option Entry) (l : List ℕ) (t : Option Open) → IsLabelKept d.seen.public l t → IsLabelKept (with_entry d e).seen.public l t
label_kept_by d e l None k = made_more (length d.seen.public.tags) (length (with_entry d e).seen.public.tags) l (tags_by d e) k
label_kept_by d e l (Some x) k = (k.0, outgrows_by x.base.public d.seen d e k.1)

-- a desk that moves goes on to hold a client
begun_by : (d : Desk) (e : Option Entry) (t : Option Open) → IsBegun d.seen d.count t → IsBegun (with_entry d e).seen (with_entry d e).count t
begun_by d e None b = tt
begun_by d None (Some x) b = b
begun_by d (Some (changes c)) (Some x) b = let le = b.within in record { within = omega (arith, le); rows = λ same. absurd (omega (arith, le, same)) }
begun_by d (Some (commits ws)) (Some x) b = let le = b.within in record { within = omega (arith, le); rows = λ same. absurd (omega (arith, le, same)) }

pub held_by : (d : Desk) (e : Option Entry) (l : List ℕ) (t : Option Open) → IsLabelKept d.seen.public l t × IsBegun d.seen d.count t
    → IsLabelKept (with_entry d e).seen.public l t × IsBegun (with_entry d e).seen (with_entry d e).count t
held_by d e l t k = (label_kept_by d e l t k.0, begun_by d e t k.1)

pub all_held_moved : (d e : Desk) (s : Session) (o : Outcome) (clients : List Client) → e ≡ moved s o d → AreHeld d clients → AreHeld e clients
all_held_moved d e s o clients m k = λ i x lt.
    let c = slice_index_or clients i x in
    subst (λ (z : Desk). IsHeld z c) (sym m) (held_by d o.added c.label c.txn (k i x lt))

-- no transaction is open
pub not_begun : (now : Seen) (n : ℕ) (t : Option Open) → t ≡ None → IsBegun now n t
not_begun now n t e = subst (IsBegun now n) (sym e) tt

-- the transaction goes on, over what it began with
pub held_on : (now : Seen) (n : ℕ) (l m : List ℕ) (x y : Open) → y.begin ≡ x.begin → y.base ≡ x.base → AreMade (length y.base.public.tags) m
    → IsLabelKept now.public l (Some x) × IsBegun now n (Some x) → IsLabelKept now.public m (Some y) × IsBegun now n (Some y)
held_on now n l m x y b e made k = (
  (made, subst (λ (z : Seen). Outgrows z.public now.public) (sym e) k.0.1),
  subst (λ (z : Seen). Began y.begin z now n) (sym e) (subst (λ i. Began i x.base now n) (sym b) k.1),
)

-- a label of a transaction is one of now
pub label_of_now : (p : Public) (l : List ℕ) (x : Open) → IsLabelKept p l (Some x) → AreMade (length p.tags) l
label_of_now p l x k = made_more (length x.base.public.tags) (length p.tags) l k.1.tags k.0

-- once the transaction is over
pub kept_over : (p : Public) (l : List ℕ) (t : Option Open) → IsLabelKept p l t → IsLabelKept p l None
kept_over p l None k = k
kept_over p l (Some x) k = label_of_now p l x k

pub made_now : (p : Public) (c : Client) → IsKept p c → AreMade (length p.tags) c.label
made_now p c k = kept_over p c.label c.txn k

pub kept_outside : (p : Public) (c : Client) → c.txn ≡ None → AreMade (length p.tags) c.label → IsKept p c
kept_outside p c n m = subst (λ (t : Option Open). IsLabelKept p c.label t) (sym n) m

pub made_held : (d : Desk) (c : Client) → IsHeld d c → AreMade (length d.seen.public.tags) c.label
made_held d c k = made_now d.seen.public c k.0

pub held_outside : (d : Desk) (c : Client) → c.txn ≡ None → AreMade (length d.seen.public.tags) c.label → IsHeld d c
held_outside d c n m = (kept_outside d.seen.public c n m, not_begun d.seen d.count c.txn n)

ended_kept : (x y : Desk) (c : Client) (l : List ℕ) (t : Option Open) (begins : List ℕ) → IsKept x.seen.public c → y ≡ settled (record x { begins = begins }) → l ≡ c.label → t ≡ None → IsLabelKept y.seen.public l t
ended_kept x y c l t begins k m e n =
    subst (λ (z : Desk). IsLabelKept z.seen.public l t) (sym m)
    (subst (λ (o : Option Open). IsLabelKept x.seen.public l o) (sym n) (subst (AreMade (length x.seen.public.tags)) (sym e) (made_now x.seen.public c k)))

installed_kept : (x y : Desk) (c : Client) (l : List ℕ) (t : Option Open) (ws : List Write) (begins : List ℕ) → IsKept x.seen.public c
    → y ≡ settled (record (with_entry x (Some (commits ws))) { begins = begins }) → l ≡ c.label → t ≡ None → IsLabelKept y.seen.public l t
installed_kept x y c l t ws begins k m e n =
    subst (λ (z : Desk). IsLabelKept z.seen.public l t) (sym m)
    (subst (λ (o : Option Open). IsLabelKept x.seen.public l o) (sym n) (subst (AreMade (length x.seen.public.tags)) (sym e) (made_now x.seen.public c k)))

pub ended_held : (x y : Desk) (c : Client) (l : List ℕ) (t : Option Open) (begins : List ℕ) → IsHeld x c → y ≡ settled (record x { begins = begins }) → l ≡ c.label → t ≡ None
    → IsLabelKept y.seen.public l t × IsBegun y.seen y.count t
ended_held x y c l t begins k m e n = (ended_kept x y c l t begins k.0 m e n, not_begun y.seen y.count t n)

pub installed_held : (x y : Desk) (c : Client) (l : List ℕ) (t : Option Open) (ws : List Write) (begins : List ℕ) → IsHeld x c
    → y ≡ settled (record (with_entry x (Some (commits ws))) { begins = begins }) → l ≡ c.label → t ≡ None → IsLabelKept y.seen.public l t × IsBegun y.seen y.count t
installed_held x y c l t ws begins k m e n = (installed_kept x y c l t ws begins k.0 m e n, not_begun y.seen y.count t n)

-- ---- commits of made tags

pub writes_made : (p : Public) (ws : List Write) → are_fit p ws ≡ true → are_writes_made (length p.tags) ws ≡ true
writes_made p ws h = all_wider (is_fit p) (λ (w : Write). are_made (length p.tags) w.slot.label) ws (λ w e. grind (arith, nat_tests)) h

commit_made_more : (m n : ℕ) (c : Commit) → m ≤ n → are_writes_made m c.writes ≡ true → are_writes_made n c.writes ≡ true
commit_made_more m n c le h = all_wider (λ (w : Write). are_made m w.slot.label) (λ (w : Write). are_made n w.slot.label) c.writes (λ w e. made_more m n w.slot.label le e) h

pub commits_made_more : (m n : ℕ) (cs : List Commit) → m ≤ n → list_all (λ c. are_writes_made m c.writes) cs ≡ true → list_all (λ c. are_writes_made n c.writes) cs ≡ true
commits_made_more m n cs le h = all_wider (λ c. are_writes_made m c.writes) (λ c. are_writes_made n c.writes) cs (λ c e. commit_made_more m n c le e) h

-- ---- desks

-- an entry fits a desk: a commit's writes do
abbrev pub entry_fits : Desk → Option Entry → Bool
entry_fits d None = true
entry_fits d (Some (changes c)) = true
entry_fits d (Some (commits ws)) = are_fit d.seen.public ws

-- once commits are given up
pub sound_settled : (d : Desk) → are_ordered d.begins d.count ≡ true → is_sound d.seen ≡ true → are_rooted d.seen.rows d.seen.rows ≡ true → list_all (λ c. are_writes_made (length d.seen.public.tags) c.writes) d.commits ≡ true → IsSound (settled d)
sound_settled d o s p m = record {
  order = o;
  seen = s;
  parents = p;
  made = trimmed_all (λ c. are_writes_made (length d.seen.public.tags) c.writes) (oldest d) d.commits m;
  later = trimmed_later (oldest d) d.commits;
}

-- once it has another entry, and other transactions are open
pub sound_changes : (d : Desk) (c : Change) → IsSound d → IsSound (settled (with_entry d (Some (changes c))))
sound_changes d c k = sound_settled (with_entry d (Some (changes c))) (ordered_more d.begins d.count (d.count + 1) (omega arith) k.order) (sound_changed d.seen c k.seen) k.parents
    (commits_made_more (length d.seen.public.tags) (length (changed d.seen.public c).tags) d.commits (tags_grow d.seen.public c) k.made)

pub sound_commits : (d : Desk) (ws : List Write) (begins : List ℕ) → IsSound d → are_ordered begins (d.count + 1) ≡ true → are_fit d.seen.public ws ≡ true → are_fitting ws ≡ true
    → keeps_parents d.seen.rows ws ≡ true → IsSound (settled (record (with_entry d (Some (commits ws))) { begins = begins }))
sound_commits d ws begins k o f g p = sound_settled (record (with_entry d (Some (commits ws))) { begins = begins }) o (sound_written d.seen ws k.seen f g) p
    (all_push (λ c. are_writes_made (length d.seen.public.tags) c.writes) d.commits (record { stamp = d.count + 1; writes = ws }) (writes_made d.seen.public ws f) k.made)

pub sound_begins : (d : Desk) (begins : List ℕ) → IsSound d → are_ordered begins d.count ≡ true → IsSound (settled (record d { begins = begins }))
sound_begins d begins k o = sound_settled (record d { begins = begins }) o k.seen k.parents k.made

-- ---- one client of many

pub all_set : {X : Type 0} (P : X → Type 0) (xs : List X) (at : ℕ) (x : X) → P x → All P xs → All P (slice_set xs at x)
all_set P [] at x h k = λ i d lt. absurd (omega (arith, lt))
all_set P (y ∷ xs) zero x h k = at where
  at : All P (x ∷ xs)
  at zero d lt = h
  at (suc i) d lt = k (suc i) d lt
all_set P (y ∷ xs) (suc n) x h k = at (all_set P xs n x h (λ i d lt. k (suc i) d (omega (arith, lt)))) where
  at : All P (slice_set xs n x) → All P (y ∷ slice_set xs n x)
  at more zero d lt = k zero d (omega arith)
  at more (suc i) d lt = more i d (omega (arith, lt))

pub all_add : {X : Type 0} (P : X → Type 0) (xs : List X) (x : X) → P x → All P xs → All P (xs ++ x ∷ [])
all_add P [] x h k = at where
  at : All P (x ∷ [])
  at zero d lt = h
  at (suc i) d lt = absurd (omega (arith, lt))
all_add P (y ∷ xs) x h k = at (all_add P xs x h (λ i d lt. k (suc i) d (omega (arith, lt)))) where
  at : All P (xs ++ x ∷ []) → All P (y ∷ xs ++ x ∷ [])
  at more zero d lt = k zero d (omega arith)
  at more (suc i) d lt = more i d (omega (arith, lt))
