use Rattle.std.proofs.Common.{◌++◌, length}
use Rattle.ifdb_redo.specs.Spelling as spell
use Rattle.ifdb_redo.specs.Spelled.{IsNumber}
use Rattle.ifdb_redo.proofs.Putting.{IsPut}
use Rattle.ifdb_redo.proofs.writing.put_tags.Given as goal

abbrev pub invariant-loop-tag : goal.invariant-loop-tag
invariant-loop-tag l = IsPut spell.number IsNumber (l.fn.out.items ++ spell.number (length l.tags)) l.tags l.tag-index l.out.items
