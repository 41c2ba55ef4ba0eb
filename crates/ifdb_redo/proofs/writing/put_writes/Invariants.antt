use Rattle.std.proofs.Common.{◌++◌, length}
use Rattle.ifdb_redo.specs.Spelling as spell
use Rattle.ifdb_redo.specs.Spelled.{IsWrite}
use Rattle.ifdb_redo.proofs.Putting.{IsPut}
use Rattle.ifdb_redo.proofs.writing.put_writes.Given as goal

abbrev pub invariant-loop-write : goal.invariant-loop-write
invariant-loop-write l = IsPut spell.write IsWrite (l.fn.out.items ++ spell.number (length l.writes)) l.writes l.write-index l.out.items
