use Rattle.std.proofs.Common.{◌≡◌, true, take}
use Rattle.std.specs.Prelude.{map}
use Rattle.ifdb_model.specs.Writes.{are_writable}
use Rattle.ifdb_row.specs.ByReference.{row_of}
use Rattle.ifdb_txn.proofs.matched.are_writable.Given as goal

abbrev pub invariant-loop-row : goal.invariant-loop-row
invariant-loop-row l = are_writable l.label (map row_of (take l.row-index l.rows)) ≡ true
