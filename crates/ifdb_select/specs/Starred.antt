-- Columns as items.
use Rattle.std.specs.Prelude.{List, map}
use Rattle.ifdb_bound.specs.declared.expression.BoundColumn.{BoundColumn}
use Rattle.ifdb_bound.specs.declared.expression.BoundExpr.TheVariants as be
use Rattle.ifdb_bound.specs.declared.select.BoundItem.{BoundItem}
use Rattle.ifdb_bound.specs.declared.select.BoundItem.TheVariants as bi

-- each column as an item of its own
abbrev pub starred : List BoundColumn → List BoundItem
starred columns = map (λ c. bi.Expr (be.Column c)) columns
