-- Parents one by one.
use Rattle.std.specs.Prelude.{Bool, true, false, Option, Some, None, Result, Ok, Err, List, ◌++◌, if◌then◌else◌}
use Rattle.ifdb_value.specs.declared.value.Value.{Value}
use Rattle.ifdb_row.specs.declared.slot.Slot.{Slot}
use Rattle.ifdb_row.specs.declared.write.Write.{Write}
use Rattle.ifdb_bound.specs.declared.schema.Foreign.{Foreign}
use Rattle.ifdb_bound.specs.declared.request.BoundAssignment.{BoundAssignment}
use Rattle.ifdb_wire.specs.declared.fault.Fault.{Fault}
use Rattle.ifdb_model.specs.Writes.{Scene, bound_parent, is_assigned}

-- some slots before the others, if these are there
abbrev pub with_front : List Slot → Option (List Slot) → Option (List Slot)
with_front front None = None
with_front front (Some more) = Some (front ++ more)

-- the slot that a row was bound to, if no column of the foreign key is assigned
abbrev pub kept_of : List BoundAssignment → Foreign → Option Slot → Option Slot
kept_of sets f bound = if is_assigned sets f then None else bound

-- the slot that is kept, or else the parent of a row with these values
abbrev pub kept_or_bound : Scene → List Value → Foreign → Option Slot → Option Slot
kept_or_bound x values f None = bound_parent x values f
kept_or_bound x values f (Some s) = Some s

-- the parent by a foreign key, or none where it doesn't bind; nothing where it has to bind one and none is there
abbrev pub parent_where : Bool → Option Slot → Option (Option Slot)
parent_where true None = None
parent_where true (Some s) = Some (Some s)
parent_where false parent = Some None

-- some writes before the others, if these aren't refused
abbrev pub before : List Write → Result (List Write) Fault → Result (List Write) Fault
before front (Err f) = Err f
before front (Ok ws) = Ok (front ++ ws)
