use Rattle.std.proofs.Common.{◌≡◌, map, take}
use Rattle.ifdb_row.specs.declared.row.Row.{Row}
use Rattle.ifdb_row.specs.ByReference.{row_of}
use Rattle.ifdb_store.proofs.even.refs_of.Given as goal

-- what the rows so far refer to
abbrev pub invariant-loop-row : goal.invariant-loop-row
invariant-loop-row l = l.refs ≡ map (λ (r : Row). r.refs) (map row_of (take l.row-index l.rows))
