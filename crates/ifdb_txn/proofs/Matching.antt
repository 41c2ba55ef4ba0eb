-- The rows that match.
use Rattle.std.proofs.Common.{◌≡◌, ℕ, zero, suc, ◌<◌, ◌+◌, Bool, false, List, [], ◌∷◌, ◌++◌, length, get_or, map, filter, take, refl, sym, ap, ◌∙◌, arith, Some, None, Option}
use Rattle.std.specs.Prelude.{slice_get}
use Rattle.std.specs.List.{list_all}
use Rattle.std.proofs.lemmas.List.{append_assoc, take_more}
use Rattle.std.proofs.lemmas.List.Elements.{filter-append}
use Rattle.std.proofs.lemmas.Option.{get_or_from_slice_get, slice_get_within}
use Rattle.std.proofs.lemmas.List.Folds.{list_all-map}
use Rattle.std.proofs.lemmas.Bool.Decides.{nat_tests}
use Rattle.ifdb_label.specs.Tags.{MadeTag}
use Rattle.ifdb_row.specs.declared.row.Row.{Row}
use Rattle.ifdb_row.specs.Questions.{later_rows}
use Rattle.ifdb_bound.specs.declared.condition.BoundCond.{BoundCond}
use Rattle.ifdb_model.specs.Writes.{matched}
use Rattle.ifdb_txn.specs.Matches.{is_wanted}

pub all_map : {X Y : Type 0} (p : Y → Bool) (f : X → Y) (xs : List X) → list_all p (map f xs) ≡ list_all (λ x. p (f x)) xs
all_map p f xs = list_all-map p f xs

pub all_miss : {X : Type 0} (test : X → Bool) (xs : List X) (k : ℕ) (x : X) → k < length xs → get_or xs k x ≡ x → test x ≡ false → list_all test xs ≡ false
all_miss test [] k x lt at h = absurd (omega arith)
all_miss test (y ∷ xs) zero x lt at h = let e = ap test at ∙ h in grind (arith, nat_tests)
all_miss test (y ∷ xs) (suc k) x lt at h = grind (arith, nat_tests, all_miss test xs k x (omega arith) at h)

-- one row more of a run, kept where it passes
pub kept_next : {X : Type 0} (test : X → Bool) (run : List X) (i : ℕ) (x : X) (old all new : List X) → slice_get run i ≡ Some x → all ≡ old ++ filter test (take i run)
    → new ≡ all ++ filter test (x ∷ []) → new ≡ old ++ filter test (take (i + 1) run)
kept_next test run i x old all new at so next =
    let more : take (i + 1) run ≡ take i run ++ x ∷ [] = take_more run i x (slice_get_within run i x at) ∙ ap (λ y. take i run ++ y ∷ []) (get_or_from_slice_get run i x x at) in
    next ∙ (ap (λ l. l ++ filter test (x ∷ [])) so
    ∙ (append_assoc old (filter test (take i run)) (filter test (x ∷ [])) ∙ ap (λ l. old ++ l) (sym (ap (filter test) more ∙ filter-append test (take i run) (x ∷ [])))))
