-- The images of a journal over many appends.
use Rattle.std.proofs.Common.{inl, inr, ℕ, suc, ◌≤◌, List, [], ◌∷◌, ◌++◌, length, take, sym, subst, ◌∙◌, arith, append_assoc}
use Rattle.std.specs.Prelude.{Option, Some, None}
use Rattle.std.proofs.lemmas.List.{append-nil}
use Rattle.ifdb_disk.specs.Images.{IsImage}
use Rattle.ifdb_disk.specs.Clock.{Clock, Leaves}
use Rattle.ifdb_disk.proofs.Moments.{since_here, leaves_weaker, leaves_on}
use Rattle.ifdb_disk.proofs.Store.{settled_only}
use Rattle.ifdb_journal.specs.Records.{ReadsAs}
use Rattle.ifdb_journal.specs.declared.record.Record.{Record}
use Rattle.ifdb_journal.specs.Reading.{Holds, HasAllOrNone, HasFirst, AddsEach, joined, JournalImages, HeldImages}
use Rattle.ifdb_journal.proofs.Scan.{reads_closed}

one_first : (rs batch : List Record) (more : List (List Record)) (image : List ℕ) → HasAllOrNone rs batch image → HasFirst rs (batch ∷ more) image
one_first rs batch more image (inl without) = let le : 0 ≤ length (batch ∷ more) = omega arith in (0, le, subst (λ l. ReadsAs l image) (sym (append-nil rs)) without)
one_first rs batch more image (inr with_it) = let le : 1 ≤ length (batch ∷ more) = omega arith in (1, le, subst (λ l. ReadsAs (rs ++ l) image) (sym (append-nil batch)) with_it)

more_first : (rs batch : List Record) (more : List (List Record)) (image : List ℕ) → HasFirst (rs ++ batch) more image → HasFirst rs (batch ∷ more) image
more_first rs batch more image has =
    let le : suc has.0 ≤ length (batch ∷ more) = omega (arith, has.1) in
    (suc has.0, le, subst (λ l. ReadsAs l image) (append_assoc rs batch (joined (take has.0 more))) has.2)

pub all_images : (more : List (List Record)) (rs : List Record) (t u : Option Clock) (at next : ℕ) → Holds t rs at → AddsEach more t at u next → Holds u (rs ++ joined more) next × Leaves t u (HasFirst rs more)
all_images [] rs t u at next held adds = (
  subst (λ n. Holds u (rs ++ []) n) (sym adds.1) (subst (λ v. Holds v (rs ++ []) at) (sym adds.0) (subst (λ l. Holds t l at) (sym (append-nil rs)) held)),
  subst (λ v. Leaves t v (HasFirst rs [])) (sym adds.0) (since_here t (λ s. (image : List ℕ) → IsImage s image → HasFirst rs [] image)),
)
all_images (batch ∷ more) rs t u at next held adds =
    let v = adds.0 in
    let mid = adds.1 in
    let rest = all_images more (rs ++ batch) v u mid next (adds.2 rs held) adds.4 in (
      subst (λ l. Holds u l next) (append_assoc rs batch (joined more)) rest.0,
      leaves_on t v u (HasFirst rs (batch ∷ more))
          (leaves_weaker t v (HasAllOrNone rs batch) (HasFirst rs (batch ∷ more)) (one_first rs batch more) (adds.3 rs held))
          (leaves_weaker v u (HasFirst (rs ++ batch) more) (HasFirst rs (batch ∷ more)) (more_first rs batch more) rest.1),
    )

pub images : JournalImages
images rs batches last_one t u w at next held adds last =
    let all = all_images batches rs t u at next held adds in
    (all.0, all.1, last (rs ++ joined batches) all.0)

pub held : HeldImages
held rs None at holds = tt
held rs (Some c) at holds = λ image left.
    let only = settled_only holds.0 image (subst (λ s. IsImage s image) holds.1 left) in
    subst (ReadsAs rs) (sym (only ∙ holds.2.split)) (reads_closed holds.2.front rs holds.2.tail holds.2.is)
