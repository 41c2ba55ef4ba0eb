use Rattle.std.proofs.Common.{◌≡◌, false, take}
use Rattle.std.specs.List.{list_any}
use Rattle.ifdb_row.specs.ByReference.{row_of}
use Rattle.ifdb_row.specs.Writes.{deletes}
use Rattle.ifdb_foreign.proofs.broken.if_left.Given as goal

abbrev pub invariant-loop-parent : goal.invariant-loop-parent
invariant-loop-parent l = list_any (deletes l.writes) (take l.parent-index (row_of l.row).refs) ≡ false
