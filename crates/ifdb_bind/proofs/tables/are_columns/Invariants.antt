use Rattle.std.proofs.Common.{◌≡◌, take, true}
use Rattle.std.specs.List.{list_all}
use Rattle.ifdb_catalog.specs.Statements.{is_column_of}
use Rattle.ifdb_bind.proofs.tables.are_columns.Given as goal

-- the names so far are those of columns
abbrev pub invariant-loop-name : goal.invariant-loop-name
invariant-loop-name l = list_all (is_column_of l.columns) (take l.name-index l.names) ≡ true
