use Rattle.std.proofs.Common.{◌++◌, length}
use Rattle.ifdb_redo.specs.Spelling as spell
use Rattle.ifdb_redo.specs.Spelled.{IsValue}
use Rattle.ifdb_redo.proofs.Putting.{IsPut}
use Rattle.ifdb_redo.proofs.writing.put_values.Given as goal

abbrev pub invariant-loop-value : goal.invariant-loop-value
invariant-loop-value l = IsPut spell.value IsValue (l.fn.out.items ++ spell.number (length l.values)) l.values l.value-index l.out.items
