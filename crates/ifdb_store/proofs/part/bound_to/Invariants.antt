use Rattle.std.proofs.Common.{◌≡◌, take}
use Rattle.std.specs.Prelude.{None}
use Rattle.std.specs.List.{flat_map}
use Rattle.ifdb_row.specs.ByReference.{option_slot, slot_of}
use Rattle.ifdb_row.specs.Questions.{row_bound_to}
use Rattle.ifdb_store.proofs.part.bound_to.Given as goal

abbrev pub invariant-loop-part : goal.invariant-loop-part
invariant-loop-part g l = row_bound_to (slot_of l.slot) (option_slot l.after) (flat_map g.P.Placed.rows (take l.part-index l.parts)) ≡ None
