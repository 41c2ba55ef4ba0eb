-- The records that were added, batch by batch, and what crashes leave of them.
use Rattle.std.proofs.Common.{◌≡◌, ℕ, zero, suc, ◌+◌, ◌≤◌, List, [], ◌∷◌, ◌++◌, length, take, refl, sym, ap, subst, ◌∙◌, arith, append_assoc, inl, inr}
use Rattle.std.specs.Prelude.{◌⊎◌, Option, Some, None}
use Rattle.std.proofs.Math.Seq.{take-append-add, take-nil}
use Rattle.std.proofs.lemmas.List.{append-nil, length-append, take-append-le, take_all}
use Rattle.ifdb_disk.specs.Images.{IsImage}
use Rattle.ifdb_disk.specs.Clock.{Clock, Leaves}
use Rattle.ifdb_disk.proofs.Moments.{leaves_weaker, leaves_on, since_here}
use Rattle.ifdb_journal.specs.Records.{ReadsAs}
use Rattle.ifdb_journal.specs.Reading.{Holds, Adds, MayAdd, AddsEach, HasFirst, HasAllOrNone, joined}
use Rattle.ifdb_journal.specs.declared.record.Record.{Record}
use Rattle.ifdb_journal.proofs.Images.{all_images, held}
use Rattle.ifdb_keep.specs.Resumed.{front_of, AllHave, HasBegun, Journaled}
use Rattle.ifdb_keep.specs.Taken.{WereAdded}

-- nothing was done to the disk
pub adds_none : (t : Option Clock) (at : ℕ) → WereAdded [] t at t at
adds_none t at = (
  (λ rs holds. subst (λ l. Holds t l at) (sym (append-nil rs)) holds),
  (λ rs holds. since_here t (λ s. (image : List ℕ) → IsImage s image → HasAllOrNone rs [] image)),
)

-- one batch more
pub adds_more : (batches : List (List Record)) (rs : List Record) (t u w : Option Clock) (at next last : ℕ) → AddsEach batches t at u next → WereAdded rs u next w last
    → AddsEach (batches ++ rs ∷ []) t at w last
adds_more [] rs t u w at next last adds more =
    let here : WereAdded rs t at w last = subst (λ v. WereAdded rs v at w last) adds.0 (subst (λ n. WereAdded rs u n w last) adds.1 more) in
    (w, last, here.0, here.1, (refl, refl))
adds_more (batch ∷ batches) rs t u w at next last adds more = (adds.0, adds.1, adds.2, adds.3, adds_more batches rs adds.0 u w adds.1 next last adds.4 more)

pub joined_more : (batches : List (List Record)) (rs : List Record) → joined (batches ++ rs ∷ []) ≡ joined batches ++ rs
joined_more [] rs = append-nil rs
joined_more (batch ∷ batches) rs = ap (λ l. batch ++ l) (joined_more batches rs) ∙ sym (append_assoc batch (joined batches) rs)

-- the first batches are the first records
abbrev IsFirst : List Record → List Record → Type 0
IsFirst all first = (m : ℕ) × (m ≤ length all) × (first ≡ take m all)

first_joined : (n : ℕ) (batches : List (List Record)) → IsFirst (joined batches) (joined (take n batches))
first_joined zero batches = let le : 0 ≤ length (joined batches) = omega arith in (0, le, refl)
first_joined (suc n) [] = let le : 0 ≤ length (joined []) = omega arith in (0, le, refl)
first_joined (suc n) (batch ∷ batches) =
    let rest = first_joined n batches in
    let all : length batch + rest.0 ≤ length (batch ++ joined batches) = omega (arith, length-append batch (joined batches), rest.1) in
    (length batch + rest.0, all, ap (λ l. batch ++ l) rest.2 ∙ sym (take-append-add batch (joined batches) rest.0))

-- ---- what crashes leave

-- of the first batches
begun_first : (rs more : List Record) (batches : List (List Record)) (image : List ℕ) → HasFirst (front_of rs) batches image → HasBegun rs (joined batches ++ more) image
begun_first rs more batches image has =
    let first = first_joined has.0 batches in
    inr (first.0, subst (λ l. ReadsAs (front_of rs ++ l) image) (first.2 ∙ sym (take-append-le first.0 (joined batches) more first.1)) has.2)

-- of no record of the script
begun_none : (rs more : List Record) (image : List ℕ) → HasBegun rs [] image → HasBegun rs more image
begun_none rs more image (inl same) = inl same
begun_none rs more image (inr has) = inr (0, subst (λ l. ReadsAs (front_of rs ++ l) image) (take-nil has.0) has.1)

-- of all batches, and one record more or not
begun_last : (rs all more : List Record) (image : List ℕ) → HasAllOrNone (front_of rs ++ all) more image → HasBegun rs (all ++ more) image
begun_last rs all more image (inl without) =
    let le : length all ≤ length all = omega arith in
    inr (length all, subst (λ l. ReadsAs (front_of rs ++ l) image) (sym (take-append-le (length all) all more le ∙ take_all (length all) all le)) without)
begun_last rs all more image (inr with_it) =
    let le : length (all ++ more) ≤ length (all ++ more) = omega arith in
    inr (
      length (all ++ more),
      subst (λ l. ReadsAs l image)
          (append_assoc (front_of rs) all more ∙ ap (λ l. front_of rs ++ l) (sym (take_all (length (all ++ more)) (all ++ more) le))) with_it,
    )

-- a journal that was read goes on by some batches
pub journaled_on : (rs : List Record) (batches : List (List Record)) (first t u : Option Clock) (at next : ℕ) → Journaled rs [] first t → Holds t (front_of rs) at → AddsEach batches t at u next
    → Journaled rs (joined batches) first u
journaled_on rs batches first t u at next journal holds adds =
    let all = all_images batches (front_of rs) t u at next holds adds in
    record {
      spelled = journal.spelled;
      mid = journal.mid;
      start = journal.start;
      read = journal.read;
      since = leaves_on journal.mid t u (HasBegun rs (joined batches))
          (leaves_weaker journal.mid t (HasBegun rs []) (HasBegun rs (joined batches)) (begun_none rs (joined batches)) journal.since)
          (leaves_weaker t u (HasFirst (front_of rs) batches) (HasBegun rs (joined batches)) (λ image has. subst (λ l. HasBegun rs l image) (append-nil (joined batches)) (begun_first rs [] batches image has)) all.1);
    }

-- and by an append that failed
pub journaled_short : (rs more : List Record) (batches : List (List Record)) (first t u w : Option Clock) (at next : ℕ) → Journaled rs [] first t → Holds t (front_of rs) at
    → AddsEach batches t at u next → MayAdd more u next w → Journaled rs (joined batches ++ more) first w
journaled_short rs more batches first t u w at next journal holds adds may =
    let all = all_images batches (front_of rs) t u at next holds adds in
    let goal = HasBegun rs (joined batches ++ more) in
    record {
      spelled = journal.spelled;
      mid = journal.mid;
      start = journal.start;
      read = journal.read;
      since = leaves_on journal.mid t w goal
          (leaves_weaker journal.mid t (HasBegun rs []) goal (begun_none rs (joined batches ++ more)) journal.since)
          (leaves_on t u w goal
          (leaves_weaker t u (HasFirst (front_of rs) batches) goal (begun_first rs more batches) all.1)
          (leaves_weaker u w (HasAllOrNone (front_of rs ++ joined batches) more) goal (begun_last rs (joined batches) more) (may (front_of rs ++ joined batches) all.0)));
    }

-- what the disk holds then
pub holds_on : (rs : List Record) (batches : List (List Record)) (t u : Option Clock) (at next : ℕ) → Holds t (front_of rs) at → AddsEach batches t at u next
    → Holds u (front_of rs ++ joined batches) next
holds_on rs batches t u at next holds adds = (all_images batches (front_of rs) t u at next holds adds).0

pub all_have : (rs : List Record) (t : Option Clock) (at : ℕ) → Holds t rs at → AllHave rs t
all_have rs t at holds = held rs t at holds
