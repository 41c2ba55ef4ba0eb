-- What a change, a commit and the end of a transaction leave true of a desk.
use Rattle.std.proofs.Common.{◌≡◌, ℕ, ◌+◌, true, List, ◌++◌, ◌∷◌, [], ◌∙◌, length, sym, ap, subst, arith, None, Some}
use Rattle.std.proofs.lemmas.List.{length-map}
use Rattle.ifdb_label.specs.Tags.{AreMade}
use Rattle.ifdb_row.specs.declared.row.Row.{Row}
use Rattle.ifdb_row.specs.declared.write.Write.{Write}
use Rattle.ifdb_row.specs.declared.commit.Commit.{Commit}
use Rattle.ifdb_row.specs.Content.{after}
use Rattle.ifdb_row.specs.Writes.{are_fitting}
use Rattle.ifdb_row.specs.Verdict.{verdict, written_by}
use Rattle.ifdb_row.proofs.RootedLaws.{go_rooted}
use Rattle.ifdb_store.specs.Kept.{Kept, trimmed}
use Rattle.ifdb_store.specs.Later.{are_writes_made}
use Rattle.ifdb_bound.specs.declared.request.Change.{Change}
use Rattle.ifdb_catalog.specs.Public.{Public, changed, tags_of}
use Rattle.ifdb_snapshot.specs.Writing.{are_fit}
use Rattle.ifdb_laws.proofs.Shapes.{go_only}
use Rattle.ifdb_db.specs.Answer.{fault_of}
use Rattle.ifdb_db.specs.Client.{Open}
use Rattle.ifdb_db.specs.Desk.{Desk, oldest_of, without}
use Rattle.ifdb_db.specs.Kept.{IsSound, IsLabelKept, are_ordered, keeps_parents}
use Rattle.ifdb_db.proofs.BeginLaws.{ordered_more, ordered_without}
use Rattle.ifdb_db.proofs.Keeping.{fit_later, label_of_now, sound_begins, sound_changes, sound_commits, writes_made}

module _ (d : Desk) (k : IsSound d) (rows : List Row) (cs : List Commit) (n : ℕ) where
  -- a transaction is over
  pub forgotten : (b : ℕ) (bs : List ℕ) → bs ≡ without b d.begins → rows ≡ d.seen.rows → n ≡ oldest_of bs d.count → cs ≡ trimmed n d.commits
      → IsSound (record { seen = record d.seen { rows = rows }; commits = cs; count = d.count; begins = bs })
  forgotten b bs e r o h =
      let left = sym (h ∙ ap (λ m. trimmed m d.commits) (o ∙ ap (λ l. oldest_of l d.count) e)) in
      let same = sym r in
      let begins = sym e in
      subst IsSound (λ i. record { seen = record d.seen { rows = same i }; commits = left i; count = d.count; begins = begins i })
      (sound_begins d (without b d.begins) k (ordered_without b d.begins d.count k.order))

  -- a public change
  pub changed_so : (c : Change) (p : Public) → p ≡ changed d.seen.public c → rows ≡ d.seen.rows → n ≡ oldest_of d.begins (d.count + 1) → cs ≡ trimmed n d.commits
      → IsSound (record { seen = record { public = p; rows = rows }; commits = cs; count = d.count + 1; begins = d.begins })
  changed_so c p e r o h =
      let left = sym (h ∙ ap (λ m. trimmed m d.commits) o) in
      let same = sym r in
      let public = sym e in
      subst IsSound (λ i. record { seen = record { public = public i; rows = same i }; commits = left i; count = d.count + 1; begins = d.begins }) (sound_changes d c k)

  -- a commit, by which these transactions are left
  pub landed : (ws : List Write) (bs began : List ℕ) (s : Kept) (r0 : List Row) (c0 : List Commit) → bs ≡ began → are_ordered began (d.count + 1) ≡ true
      → are_fit d.seen.public ws ≡ true → are_fitting ws ≡ true → keeps_parents d.seen.rows ws ≡ true
      → r0 ≡ d.seen.rows → c0 ≡ d.commits → s ≡ record { rows = after r0 ws; commits = c0 ++ record { stamp = d.count + 1; writes = ws } ∷ [] }
      → rows ≡ s.rows → n ≡ oldest_of bs (d.count + 1) → cs ≡ trimmed n s.commits
      → IsSound (record { seen = record d.seen { rows = rows }; commits = cs; count = d.count + 1; begins = bs })
  landed ws bs began s r0 c0 e o f g p r c i h m t =
      let same = sym (h ∙ ap (λ (z : Kept). z.rows) i ∙ ap (λ l. after l ws) r) in
      let kept = ap (λ (z : Kept). z.commits) i ∙ ap (λ l. l ++ record { stamp = d.count + 1; writes = ws } ∷ []) c in
      let left = sym (t ∙ ap (trimmed n) kept ∙ ap (λ j. trimmed j (d.commits ++ record { stamp = d.count + 1; writes = ws } ∷ [])) (m ∙ ap (λ l. oldest_of l (d.count + 1)) e)) in
      let begins = sym e in
      subst IsSound (λ j. record { seen = record d.seen { rows = same j }; commits = left j; count = d.count + 1; begins = begins j }) (sound_commits d ws began k o f g p)

pub ordered_one_more : (d : Desk) → IsSound d → are_ordered d.begins (d.count + 1) ≡ true
ordered_one_more d k = ordered_more d.begins d.count (d.count + 1) (omega arith) k.order

pub ordered_one_less : (d : Desk) (b : ℕ) → IsSound d → are_ordered (without b d.begins) (d.count + 1) ≡ true
ordered_one_less d b k = ordered_more (without b d.begins) d.count (d.count + 1) (omega arith) (ordered_without b d.begins d.count k.order)

-- a COMMIT that isn't refused leaves each row its parents
pub parents_kept : (d : Desk) (l : List ℕ) (x : Open) → IsSound d → are_fitting x.own ≡ true → fault_of d l (Some x) ≡ None → keeps_parents d.seen.rows x.own ≡ true
parents_kept d l x k f none =
    let later = written_by (trimmed x.begin d.commits) in
    go_rooted (tags_of d.seen.public) d.seen.rows later x.own l f k.parents (go_only (verdict (tags_of d.seen.public) d.seen.rows later x.own l) none)

-- ---- what a transaction's end is judged by

as_many_tags : (p : Public) (n : ℕ) → n ≡ length (tags_of p) → n ≡ length p.tags
as_many_tags p n e = e ∙ length-map p.tags _

pub own_made : (p : Public) (l : List ℕ) (x : Open) (ws : List Write) (n : ℕ) → IsLabelKept p l (Some x) → are_fit x.base.public ws ≡ true → n ≡ length (tags_of p) → are_writes_made n ws ≡ true
own_made p l x ws n k f e = subst (λ m. are_writes_made m ws ≡ true) (sym (as_many_tags p n e)) (writes_made p ws (fit_later x.base.public p ws k.1 f))

pub label_made : (p : Public) (l : List ℕ) (x : Open) (n : ℕ) → IsLabelKept p l (Some x) → n ≡ length (tags_of p) → AreMade n l
label_made p l x n k e = subst (λ m. AreMade m l) (sym (as_many_tags p n e)) (label_of_now p l x k)
