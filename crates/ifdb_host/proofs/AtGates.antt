-- The service of a site of gates, put together.
use Rattle.std.proofs.Common.{◌≡◌, inl, inr, ℕ, ◌+◌, ◌-◌, ◌<◌, suc, zero, true, false, List, [], ◌∷◌, ◌++◌, length, map, get_or, refl, sym, ap, ◌∙◌, subst, arith, append-nil}
use Rattle.std.specs.Prelude.{All, Contains}
use Rattle.std.proofs.lemmas.List.{length-map, get_or-map}
use Rattle.std.proofs.lemmas.List.Elements.{All-nil, All-cons, All-head, All-tail, All-contains_itself}
use mathlib.Core.Option.{some, none, some-injective}
use lib.ListN.{get_elem?}
use Rattle.ifdb_io.specs.Doors.{Stays, LosesFirst, Becomes}
use Rattle.ifdb_loop.specs.declared.gate.Gate as gate
use Rattle.ifdb_loop.specs.declared.gate_site.GateSite as site
use Rattle.ifdb_loop.specs.declared.port.Port as port
use Rattle.ifdb_turn.specs.declared.turnstile.Pass.{Pass}
use Rattle.ifdb_turn.specs.Passes.{history, places, OwnsAll}
use Rattle.ifdb_turn.specs.Places.{times, RisesFrom}
use Rattle.ifdb_turn.proofs.PlaceLemmas.{merged_apart}
use Rattle.ifdb_model.specs.Log.{Entry as LogEntry}
use Rattle.ifdb_history.specs.declared.entry.Entry.{Entry}
use Rattle.ifdb_history.specs.declared.entry.Kind.{Kind}
use Rattle.ifdb_history.specs.declared.entry.Kind.TheVariants as kind
use Rattle.ifdb_history.specs.History.{Start, after, WasOpened, HasRoot, root_of, roots_from}
use Rattle.ifdb_history.proofs.Flat.{as_many_roots}
use Rattle.ifdb_keyed.specs.Keys.{key_bytes}
use Rattle.ifdb_session.specs.Starts.{start_of}
use Rattle.ifdb_desk.proofs.Opening.{opened_count}
use Rattle.ifdb_service.proofs.AtSite.{becomes_kept, loses_kept}
use Rattle.ifdb_gates.specs.Served.{Run, IsRunIn, ServedAll, numbers_of, times_in}
use Rattle.ifdb_gates.proofs.Later.{run_later}
use Rattle.ifdb_host.specs.Gates.{AllEnded, Exchanges, IsAskedFor, IsServedOver, OneFailed}
use Rattle.ifdb_host.specs.declared.plan.Plan.{Plan}

module _ {S G P : Type 0} (sites : site.Ghosts S G P) where
  -- the site gave gates, and then took some back
  pub exchanged : (plan : Plan) (first then last : S) (given back : List G) → IsAskedFor sites plan then → sites.asked last ≡ sites.asked then
      → LosesFirst (sites.waiting first) (sites.waiting then) given → Stays (sites.waiting then) (sites.waiting last)
      → Stays (sites.back first) (sites.back then) → Becomes (sites.back then) (sites.back last) back
      → length given ≡ plan.loops → Exchanges sites plan first last given back
  exchanged plan first then last given back asked kept loses waits stays becomes many = record {
    asked = kept ∙ asked;
    first = loses_kept _ _ _ given loses waits;
    returned = becomes_kept _ _ _ back stays becomes;
    many = many;
  }

-- ---- each session was opened at a place

element_at : (xs : List ℕ) (i : ℕ) → i < length xs → (x : ℕ) × (get_elem? xs i ≡ some x)
element_at [] i lt = absurd (omega (arith, lt))
element_at (x ∷ xs) zero lt = (x, refl)
element_at (x ∷ xs) (suc i) lt = element_at xs i (omega (arith, lt))

nothing_at : (x : ℕ) → none ≡ some x → ⊥
nothing_at x e = grind (arith, e)

-- which is below the history's length
root_below : (place : ℕ) (h : List Entry) (i x : ℕ) → get_elem? (roots_from place h) i ≡ some x → x < place + length h
root_below place [] i x is = absurd (nothing_at x is)
root_below place (e ∷ h) i x is = by (λ j at. root_below (place + 1) h j x at) e.kind i is where
  by : ((j : ℕ) → get_elem? (roots_from (place + 1) h) j ≡ some x → x < place + 1 + length h) → (k : Kind) (j : ℕ) → get_elem? (root_of place k ++ roots_from (place + 1) h) j ≡ some x → x < place + length (e ∷ h)
  by later kind.Opened zero at = let same : place ≡ x = some-injective place x at in omega (arith, same)
  by later kind.Opened (suc j) at = let below = later j at in omega (arith, below)
  by later (kind.Asked n work line) j at = let below = later j at in omega (arith, below)
  by later (kind.Looked n line) j at = let below = later j at in omega (arith, below)
  by later (kind.Refused n line) j at = let below = later j at in omega (arith, below)
  by later (kind.Left n work) j at = let below = later j at in omega (arith, below)

opened_there : (start : Start) (h : List Entry) (n : ℕ) → WasOpened (after start h) n → (place : ℕ) × HasRoot h n place × (place < length h)
opened_there start h n opened =
    let many = as_many_roots start h in
    let root = element_at (roots_from 0 h) (n - 1) (omega (arith, opened.0, opened.1, many)) in
    let below = root_below 0 h (n - 1) root.0 root.1 in
    (root.0, root.1, omega (arith, below))

-- ---- each session is that of one connection

module _ {P : Type 0} (ports : port.Ghosts P) (key : List ℕ) (limit : ℕ) (first : List LogEntry) (IsKept : List (List ℕ) → Type 0) (HasFailed : Type 0) where
  pub one_each : {G X : Type 0} (gates : gate.Ghosts G P) (now : Pass X Entry) (given back : List G) → (all : ServedAll ports key limit first IsKept HasFailed gates now given back)
      → OwnsAll now → RisesFrom 0 (places now) → (n : ℕ) → WasOpened (after (start_of first) (history now)) n → times_in n (numbers_of all.runs) ≡ 1
  one_each gates now given back all owns rises n opened =
      let root = opened_there (start_of first) (history now) n opened in
      let own = owns root.0 root.2 in
      let most = merged_apart (places now) [] rises root.0 in
      let one : times root.0 (places now) ≡ 1 = omega (arith, own, most) in
      all.own n ∙ opened_count (history now) (places now) n root.0 rises opened.0 root.1 ∙ one

-- ---- how the gates ended

of_mapped : {A B : Type 0} (Q : B → Type 0) (f : A → B) (xs : List A) → All Q (map f xs) → All (λ x. Q (f x)) xs
of_mapped Q f [] all = All-nil (λ x. Q (f x))
of_mapped Q f (x ∷ xs) all = All-cons (λ x. Q (f x)) x xs (All-head Q (f x) (map f xs) all) (of_mapped Q f xs (All-tail Q (f x) (map f xs) all))

module _ {G P : Type 0} (gates : gate.Ghosts G P) where
  -- each gate that went back is at its end
  pub all_ended : (runs : List (Run G P)) (back : List G) → map (λ r. r.after) runs ≡ back → All (λ (g : G). gates.ended g ≡ true) back → AllEnded gates runs
  all_ended runs back same all = of_mapped (λ (g : G). gates.ended g ≡ true) (λ (r : Run G P). r.after) runs (subst (All (λ (g : G). gates.ended g ≡ true)) (sym same) all)

  -- one isn't, though the disk hasn't failed
  pub one_failed : (ports : port.Ghosts P) (key : List ℕ) (limit : ℕ) (first : List LogEntry) (IsKept : List (List ℕ) → Type 0) (HasFailed : Type 0) (h : List Entry) (runs : List (Run G P)) (back : List G)
      → map (λ r. r.after) runs ≡ back → All (IsRunIn ports key limit first IsKept HasFailed gates h) runs → (HasFailed → ⊥)
      → (g : G) × Contains back g × (gates.ended g ≡ false) → OneFailed gates runs
  one_failed ports key limit first IsKept HasFailed h runs back same served held one =
      let k = one.1.0 in
      let long : length back ≡ length runs = ap length (sym same) ∙ length-map runs (λ (r : Run G P). r.after) in
      let lt : k < length runs = omega (arith, one.1.1, long) in
      let d : Run G P = record { before = one.0; after = one.0; visits = [] } in
      let r = get_or runs k d in
      let is : r.after ≡ one.0 = sym (get_or-map (λ (r : Run G P). r.after) runs k d one.0 lt) ∙ (ap (λ l. get_or l k one.0) same ∙ one.1.2) in
      let off : gates.ended r.after ≡ false = ap gates.ended is ∙ one.2 in
      elim ((served k d lt).cause off) [
        | inl rose ↦ (r, All-contains_itself runs k d lt, rose)
        | inr lost ↦ absurd (held lost)
      ]

-- ---- the service

-- a service was served so, where more may be said to be kept, or to have failed
module _ {S G P : Type 0} (sites : site.Ghosts S G P) (gates : gate.Ghosts G P) (ports : port.Ghosts P) (first_log : List LogEntry) (IsKept StillKept : List (List ℕ) → Type 0) (HasFailed StillFailed : Type 0) where
  abbrev pub served_wider : ((texts : List (List ℕ)) → IsKept texts → StillKept texts) → (HasFailed → StillFailed) → (Ends : List (Run G P) → Type 0) (Wrote : List ℕ → Type 0) (plan : Plan) (first last : S)
      → IsServedOver sites gates ports first_log IsKept HasFailed Ends Wrote plan first last
      → IsServedOver sites gates ports first_log StillKept StillFailed Ends Wrote plan first last
  served_wider kept failed Ends Wrote plan first last i = record {
    log = i.log;
    order = i.order;
    given = i.given;
    back = i.back;
    exchanged = i.exchanged;
    runs = i.runs;
    given_are = i.given_are;
    back_are = i.back_are;
    served = λ k d lt. run_later ports (key_bytes plan.key) plan.limit first_log IsKept StillKept HasFailed StillFailed kept failed i.log i.log ([], append-nil i.log) i.order gates _ (i.served k d lt);
    each = i.each;
    ends = i.ends;
    written = i.written;
  }
