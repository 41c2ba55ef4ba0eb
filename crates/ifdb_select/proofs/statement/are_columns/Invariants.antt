use Rattle.std.proofs.Common.{◌≡◌, take, true}
use Rattle.std.specs.Option.{is_some}
use Rattle.std.specs.List.{list_all}
use Rattle.ifdb_bound.specs.Kinds.{column_kind}
use Rattle.ifdb_catalog.specs.Scope.{kinds_in}
use Rattle.ifdb_select.proofs.statement.are_columns.Given as goal

-- the columns so far are there
abbrev pub invariant-loop-column : goal.invariant-loop-column
invariant-loop-column l = list_all (λ c. is_some (column_kind (kinds_in l.scope) c)) (take l.column-index l.columns) ≡ true
