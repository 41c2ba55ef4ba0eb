use Rattle.std.proofs.Common.{◌++◌, length}
use Rattle.ifdb_redo.specs.Spelling as spell
use Rattle.ifdb_redo.specs.Spelled.{IsSlot}
use Rattle.ifdb_redo.proofs.Putting.{IsPut}
use Rattle.ifdb_redo.proofs.writing.put_slots.Given as goal

abbrev pub invariant-loop-slot : goal.invariant-loop-slot
invariant-loop-slot l = IsPut spell.slot IsSlot (l.fn.out.items ++ spell.number (length l.slots)) l.slots l.slot-index l.out.items
