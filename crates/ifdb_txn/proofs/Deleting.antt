-- The rows that match, and their deletions, stand in order.
use Rattle.std.proofs.Common.{◌≡◌, ℕ, Bool, true, List, [], ◌∷◌, refl, arith, Option}
use Rattle.std.specs.Prelude.{filter, map}
use Rattle.std.proofs.lemmas.Bool.Decides.{nat_tests}
use Rattle.std.proofs.lemmas.List.Folds.{list_all-map}
use Rattle.ifdb_label.specs.Tags.{MadeTag}
use Rattle.ifdb_label.specs.Label.{flows}
use Rattle.ifdb_row.specs.declared.row.Row.{Row}
use Rattle.ifdb_row.specs.declared.write.Write.{Write}
use Rattle.ifdb_row.specs.Slots.{slot_lt}
use Rattle.ifdb_row.specs.Writes.{are_rising, are_fitting}
use Rattle.ifdb_row.specs.Content.{rising}
use Rattle.ifdb_row.specs.Seen.{see}
use Rattle.ifdb_value.proofs.Lists.{all-filter}
use Rattle.ifdb_bound.specs.declared.condition.BoundCond.{BoundCond}
use Rattle.ifdb_model.specs.Writes.{matched, is_matched, deletion}

rising_filter : (p : Row → Bool) (rows : List Row) → rising rows ≡ true → rising (filter p rows) ≡ true
rising_filter p [] h = refl
rising_filter p (r ∷ rows) h = let up = all-filter p (λ (x : Row). slot_lt r.slot x.slot) rows (grind (arith, nat_tests)) in grind (arith, nat_tests, rising_filter p rows)

pub rising_matched : (tags : List MadeTag) (rows : List Row) (t : ℕ) (cond : Option BoundCond) (label : List ℕ) → rising rows ≡ true → rising (matched tags rows t cond label) ≡ true
rising_matched tags rows t cond label h = rising_filter (is_matched t cond) (see tags rows label) (rising_filter (λ (r : Row). flows tags r.slot.label label) rows h)

pub rising_deletions : (rows : List Row) → rising rows ≡ true → are_rising (map deletion rows) ≡ true
rising_deletions [] h = refl
rising_deletions (r ∷ rows) h = let up = list_all-map (λ (w : Write). slot_lt r.slot w.slot) deletion rows in grind (arith, nat_tests, rising_deletions rows)

pub fitting_deletions : (rows : List Row) → are_fitting (map deletion rows) ≡ true
fitting_deletions [] = refl
fitting_deletions (r ∷ rows) = grind (arith, nat_tests, fitting_deletions rows)
