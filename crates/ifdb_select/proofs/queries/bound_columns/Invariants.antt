use Rattle.std.proofs.Common.{◌≡◌, take, map, true}
use Rattle.std.specs.List.{list_all}
use Rattle.ifdb_catalog.specs.Scope.{column_at, is_column}
use Rattle.ifdb_select.proofs.queries.bound_columns.Given as goal

-- the columns so far are known, and have their places
abbrev pub invariant-loop-column : goal.invariant-loop-column
invariant-loop-column l = record {
  known : list_all (is_column l.scope) (take l.column-index l.columns) ≡ true;
  bound : l.bound ≡ map (column_at l.scope) (take l.column-index l.columns);
}
