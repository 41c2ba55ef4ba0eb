-- INSERT with a list of columns, and without one.
use Rattle.std.proofs.Common.{◌≡◌, refl, ap, sym, ℕ, Bool, true, false, ◌&&◌, List, [], ◌∷◌, map, length, arith}
use Rattle.std.specs.Prelude.{◌==◌}
use Rattle.std.specs.List.{list_all}
use Rattle.std.proofs.lemmas.List.{map-id}
use Rattle.std.proofs.lemmas.Bool.Decides.{nat_tests}
use Rattle.ifdb_value.specs.declared.value.Value.{Value}
use Rattle.ifdb_value.specs.declared.column.Column.{Column}
use Rattle.ifdb_bound.specs.declared.schema.Schema.{Schema}
use Rattle.ifdb_bound.specs.Expressions.{value_at}
use Rattle.ifdb_catalog.specs.Statements.{are_listed, arranged, listed_at, row_fits, values_at, values_fit}
use Rattle.ifdb_bind.specs.Listed.{all_fit, each_once, fill, listed_fills, places_in, row_fills}

-- ---- with a list

at_places : (names : List (List ℕ)) (row : List Value) (columns : List Column)
    → map (λ (c : Column). value_at row (listed_at names c.name)) columns ≡ values_at row (places_in names columns)
at_places names row [] = refl
at_places names row (c ∷ columns) = ap (λ (l : List Value). value_at row (listed_at names c.name) ∷ l) (at_places names row columns)

fills_at_places : (columns : List Column) (key : List ℕ) (n : List ℕ) (names : List (List ℕ)) (row : List Value)
    → row_fills columns key (n ∷ names) row ≡ listed_fills columns key (n ∷ names) row
fills_at_places columns key n names row =
    ap (λ (l : List Value). (length row == length (n ∷ names)) && fill columns key l) (at_places (n ∷ names) row columns)

rows_fill : (columns : List Column) (key : List ℕ) (n : List ℕ) (names : List (List ℕ)) (rows : List (List Value))
    → list_all (row_fills columns key (n ∷ names)) rows ≡ list_all (listed_fills columns key (n ∷ names)) rows
rows_fill columns key n names [] = refl
rows_fill columns key n names (r ∷ rows) = λ j. fills_at_places columns key n names r j && rows_fill columns key n names rows j

pub listed_rows_fit : (columns : List Column) (key : List ℕ) (names : List (List ℕ)) (rows : List (List Value)) → (length names == 0) ≡ false
    → each_once columns names && list_all (listed_fills columns key names) rows ≡ are_listed columns names && list_all (row_fills columns key names) rows
listed_rows_fit columns key [] rows h = absurd (grind (arith, nat_tests))
listed_rows_fit columns key (n ∷ names) rows h = ap (λ (b : Bool). each_once columns (n ∷ names) && b) (sym (rows_fill columns key n names rows))

pub listed_rows : (columns : List Column) (names : List (List ℕ)) (rows : List (List Value)) → (length names == 0) ≡ false
    → map (λ row. values_at row (places_in names columns)) rows ≡ map (arranged columns names) rows
listed_rows columns [] rows h = absurd (grind (arith, nat_tests))
listed_rows columns (n ∷ names) [] h = refl
listed_rows columns (n ∷ names) (r ∷ rows) h = λ j. sym (at_places (n ∷ names) r columns) j ∷ listed_rows columns (n ∷ names) rows h j

-- ---- without a list

pub whole_rows : (columns : List Column) (names : List (List ℕ)) (rows : List (List Value)) → (length names == 0) ≡ true
    → rows ≡ map (arranged columns names) rows
whole_rows columns [] rows h = sym (map-id rows)
whole_rows columns (n ∷ names) rows h = absurd (grind (arith, nat_tests))

-- ---- in a table

-- rows fit the columns and the key of a table as they fit the table
pub all_fit_in : (t : Schema) (columns : List Column) (key : List ℕ) (names : List (List ℕ)) (rows : List (List Value)) → columns ≡ t.columns → key ≡ t.key
    → all_fit columns key names rows ≡ are_listed t.columns names && list_all (row_fits t names) rows
all_fit_in t columns key names rows c k = λ j. are_listed (c j) names && list_all (row_fills (c j) (k j) names) rows

-- as many values as columns
pub no_columns : (values : List Value) → values_fit [] values ≡ (length values == 0)
no_columns [] = refl
no_columns (v ∷ values) = grind (arith, nat_tests)
