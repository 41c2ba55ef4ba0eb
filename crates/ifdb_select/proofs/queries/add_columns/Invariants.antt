use Rattle.std.proofs.Common.{◌≡◌, ◌++◌, take}
use Rattle.ifdb_catalog.specs.Queries.{columns_from}
use Rattle.ifdb_select.specs.Starred.{starred}
use Rattle.ifdb_select.proofs.queries.add_columns.Given as goal

-- the columns so far stand behind the items from before
abbrev pub invariant-loop-column : goal.invariant-loop-column
invariant-loop-column l = l.trees ≡ l.initial.trees ++ starred (columns_from l.source 0 (take l.column l.from.columns))
