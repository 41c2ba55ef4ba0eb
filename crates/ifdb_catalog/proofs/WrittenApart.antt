-- Columns of different names stand at different places.
use Rattle.std.proofs.Common.{◌≡◌, refl, sym, ◌∙◌, ap, ℕ, ◌+◌, Bool, true, false, ◌||◌, ◌==◌, List, [], ◌∷◌, map, Option, Some, None, cond, arith}
use Rattle.std.specs.Prelude.{bytes_eq, slice_index_or}
use Rattle.std.specs.Option.{is_some}
use Rattle.std.specs.List.{list_all, list_any}
use Rattle.std.proofs.lemmas.Bool.Decides.{nat_tests}
use Rattle.std.proofs.lemmas.List.Quantifiers.{position-Some}
use Rattle.std.proofs.lemmas.Slice.Eq.{bytes_eq-Decides}
use Rattle.ifdb_value.specs.declared.column.Column.{Column}
use Rattle.ifdb_syntax.specs.declared.request.Assignment.{Assignment}
use Rattle.ifdb_bound.specs.declared.request.BoundAssignment.{BoundAssignment}
use Rattle.ifdb_catalog.specs.Scope.{Scope, no_column}
use Rattle.ifdb_catalog.specs.Queries.{times, are_distinct, place_or}
use Rattle.ifdb_catalog.specs.Statements.{place_named, is_column_of, place_at, is_known_assignment, bound_assignment}
use Rattle.ifdb_catalog.specs.Fits.{write_apart}

-- the column at the place of a name bears it
pub bears_name : (columns : List Column) (n : List ℕ) → is_column_of columns n ≡ true → bytes_eq (slice_index_or columns (place_at columns n) no_column).name n ≡ true
bears_name columns n h = by (place_named columns n) refl h where
  by : (o : Option ℕ) → place_named columns n ≡ o → is_some o ≡ true → bytes_eq (slice_index_or columns (place_or o) no_column).name n ≡ true
  by None e k = cc
  by (Some i) e k = (position-Some (λ (c : Column). bytes_eq c.name n) columns i no_column e).1

-- names at one place are one name
pub one_name : (columns : List Column) (m n : List ℕ) → is_column_of columns m ≡ true → is_column_of columns n ≡ true → place_at columns m ≡ place_at columns n
    → bytes_eq m n ≡ true
one_name columns m n h k e =
    let one : (slice_index_or columns (place_at columns m) no_column).name ≡ m = (bytes_eq-Decides _ m).0 (bears_name columns m h) in
    let two : (slice_index_or columns (place_at columns n) no_column).name ≡ n = (bytes_eq-Decides _ n).0 (bears_name columns n k) in
    (bytes_eq-Decides m n).1 (sym one ∙ ap (λ i. (slice_index_or columns i no_column).name) e ∙ two)

module _ (columns : List Column) (scope : Scope) where
  abbrev are_known : List Assignment → Bool
  are_known assignments = list_all (is_known_assignment columns scope) assignments

  -- a name that isn't assigned isn't written
  not_written : (n : List ℕ) → is_column_of columns n ≡ true → (assignments : List Assignment) → are_known assignments ≡ true
      → (times n (map (λ (a : Assignment). a.column) assignments) == 0) ≡ true
      → list_any (λ (b : BoundAssignment). b.column == place_at columns n) (map (bound_assignment columns scope) assignments) ≡ false
  not_written n h [] k l = refl
  not_written n h (a ∷ assignments) k l =
      by (bytes_eq a.column n) (place_at columns a.column == place_at columns n) refl refl l (not_written n h assignments (grind (arith, nat_tests))) where
        there : is_column_of columns a.column ≡ true
        there = grind (arith, nat_tests)

        by : (b c : Bool) → bytes_eq a.column n ≡ b → (place_at columns a.column == place_at columns n) ≡ c
            → (cond b (times n (map (λ (a : Assignment). a.column) assignments) + 1) (times n (map (λ (a : Assignment). a.column) assignments)) == 0) ≡ true
            → ((times n (map (λ (a : Assignment). a.column) assignments) == 0) ≡ true
            → list_any (λ (b : BoundAssignment). b.column == place_at columns n) (map (bound_assignment columns scope) assignments) ≡ false)
            → c || list_any (λ (b : BoundAssignment). b.column == place_at columns n) (map (bound_assignment columns scope) assignments) ≡ false
        by true c e f l rest = grind (arith, nat_tests)
        by false true e f l rest =
            let same : place_at columns a.column ≡ place_at columns n = grind (arith, nat_tests) in
            let one : bytes_eq a.column n ≡ true = one_name columns a.column n there h same in
            cc
        by false false e f l rest = rest l

  pub writes_apart : (assignments : List Assignment) → are_known assignments ≡ true → are_distinct (map (λ (a : Assignment). a.column) assignments) ≡ true
      → write_apart (map (bound_assignment columns scope) assignments) ≡ true
  writes_apart [] h k = refl
  writes_apart (a ∷ assignments) h k =
      let there : is_column_of columns a.column ≡ true = grind (arith, nat_tests) in
      let known : are_known assignments ≡ true = grind (arith, nat_tests) in
      let alone : (times a.column (map (λ (a : Assignment). a.column) assignments) == 0) ≡ true = grind (arith, nat_tests) in
      grind (arith, nat_tests, writes_apart assignments, not_written a.column there assignments known alone)
