-- The columns that `*` gives, one behind the other.
use Rattle.std.proofs.Common.{◌≡◌, ap, sym, ◌∙◌, append_assoc, ℕ, zero, suc, ◌+◌, ◌<◌, List, [], ◌∷◌, ◌++◌, length, take, arith}
use Rattle.ifdb_value.specs.declared.column.Column.{Column}
use Rattle.ifdb_bound.specs.declared.expression.BoundColumn.{BoundColumn}
use Rattle.std.proofs.lemmas.List.{map-append}
use Rattle.ifdb_bound.specs.declared.expression.BoundExpr.TheVariants as be
use Rattle.ifdb_bound.specs.declared.select.BoundItem.{BoundItem}
use Rattle.ifdb_bound.specs.declared.select.BoundItem.TheVariants as bi
use Rattle.ifdb_catalog.specs.Queries.{columns_from}
use Rattle.ifdb_select.specs.Starred.{starred}

-- a column alone
abbrev pub one : ℕ → ℕ → List BoundColumn
one i j = record { source = i; column = j } ∷ []

from_place : (i j k : ℕ) (columns : List Column) → k < length columns
    → columns_from i j (take (suc k) columns) ≡ columns_from i j (take k columns) ++ record { source = i; column = j + k } ∷ []
from_place i j k [] h = absurd (omega arith)
from_place i j zero (c ∷ columns) h = ap (one i) (omega arith)
from_place i j (suc k) (c ∷ columns) h =
    ap (λ (l : List BoundColumn). record { source = i; column = j } ∷ l) (from_place i (j + 1) k columns (omega arith))
    ∙ ap (λ (n : ℕ). (record { source = i; column = j } ∷ columns_from i (j + 1) (take k columns)) ++ one i n) (omega arith)

-- one column more
pub next_column : (i k : ℕ) (columns : List Column) → k < length columns
    → columns_from i 0 (take (k + 1) columns) ≡ columns_from i 0 (take k columns) ++ record { source = i; column = k } ∷ []
next_column i k columns h =
    let more : columns_from i 0 (take (suc k) columns) ≡ columns_from i 0 (take k columns) ++ one i (0 + k) = from_place i 0 k columns h in
    let n : k + 1 ≡ suc k = omega arith in
    let m : 0 + k ≡ k = omega arith in
    ap (λ (n : ℕ). columns_from i 0 (take n columns)) n ∙ (more ∙ ap (λ (n : ℕ). columns_from i 0 (take k columns) ++ one i n) m)

-- and one item more
pub columns_grow : (before now next : List BoundItem) (i k : ℕ) (columns : List Column) → k < length columns
    → now ≡ before ++ starred (columns_from i 0 (take k columns)) → next ≡ now ++ starred (one i k)
    → next ≡ before ++ starred (columns_from i 0 (take (k + 1) columns))
columns_grow before now next i k columns h old new =
    let item = λ (c : BoundColumn). bi.Expr (be.Column c) in
    let all : starred (columns_from i 0 (take (k + 1) columns)) ≡ starred (columns_from i 0 (take k columns)) ++ starred (one i k) =
    ap starred (next_column i k columns h) ∙ map-append item (columns_from i 0 (take k columns)) (one i k) in
    new
    ∙ (ap (λ (l : List BoundItem). l ++ starred (one i k)) old
    ∙ (append_assoc before (starred (columns_from i 0 (take k columns))) (starred (one i k)) ∙ ap (λ (l : List BoundItem). before ++ l) (sym all)))
