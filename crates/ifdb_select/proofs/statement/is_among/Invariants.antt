use Rattle.std.proofs.Common.{◌≡◌, take, false}
use Rattle.std.specs.List.{list_any}
use Rattle.ifdb_bound.specs.Forms.{same_column}
use Rattle.ifdb_catalog.specs.Scope.{column_at}
use Rattle.ifdb_select.proofs.statement.is_among.Given as goal

-- none of the keys so far is the column
abbrev pub invariant-loop-key : goal.invariant-loop-key
invariant-loop-key l = list_any (λ g. same_column (column_at l.scope g) l.column) (take l.key-index l.group) ≡ false
