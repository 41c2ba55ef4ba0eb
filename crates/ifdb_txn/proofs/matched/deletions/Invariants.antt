use Rattle.std.proofs.Common.{◌≡◌, take}
use Rattle.std.specs.Prelude.{map}
use Rattle.ifdb_model.specs.Writes.{deletion}
use Rattle.ifdb_row.specs.ByReference.{row_of}
use Rattle.ifdb_txn.proofs.matched.deletions.Given as goal

abbrev pub invariant-loop-row : goal.invariant-loop-row
invariant-loop-row l = l.writes.items ≡ map deletion (map row_of (take l.row-index l.rows))
