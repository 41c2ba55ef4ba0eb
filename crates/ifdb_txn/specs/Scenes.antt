-- What a statement on a target is about and what it comes to, over some rows.
use Rattle.std.specs.Prelude.{Bool, List, [], Option, Result, Ok}
use Rattle.ifdb_value.specs.declared.value.Value.{Value}
use Rattle.ifdb_row.specs.declared.slot.Slot.{Slot}
use Rattle.ifdb_row.specs.declared.row.Row.{Row}
use Rattle.ifdb_row.specs.declared.write.Write.{Write}
use Rattle.ifdb_row.specs.Seen.{clash}
use Rattle.ifdb_bound.specs.declared.condition.BoundCond.{BoundCond}
use Rattle.ifdb_bound.specs.declared.request.BoundAssignment.{BoundAssignment}
use Rattle.ifdb_wire.specs.declared.fault.Fault.{Fault}
use Rattle.ifdb_model.specs.Writes.{Scene, binding_keys, bound_parents, rebound, new_slot, insert_one, insert_all, matched, update_one, update_all}
use Rattle.ifdb_txn.specs.Inserted.{are_new}
use Rattle.ifdb_txn.specs.Keyed.{are_keyed}
use Rattle.ifdb_txn.specs.declared.target.Target.{Target}

-- what the statement is about
abbrev pub scene_of : Target → List Row → Scene
scene_of x rows = record { tags = x.from.tags.now; rows = rows; label = x.from.label.now; given = x.from.given.now }

-- the parents of a row with these values, by the foreign keys that bind, if all are there
abbrev pub parents_of : Target → List Row → List Value → Option (List Slot)
parents_of x rows values = bound_parents (scene_of x rows) values (binding_keys values x.schema.now.foreign)

-- the parents of a row that is updated to these values, if all are there
abbrev pub rebound_of : Target → List Row → List BoundAssignment → Row → List Value → Option (List Slot)
rebound_of x rows assignments r values = rebound (scene_of x rows) assignments r.values values x.schema.now.foreign r.refs

-- ---- INSERT

-- where a new row with these values stands
abbrev pub slot_of : Target → List Value → Slot
slot_of x values = new_slot x.table x.schema.now values x.from.label.now

-- the slot's label sees a row of the slot's key
abbrev pub is_clashing : Target → List Row → Slot → Bool
is_clashing x rows slot = clash x.from.tags.now rows slot.table slot.key slot.label

-- each write brings a row to a slot of the table, at the session's label, in which none stood
abbrev pub are_fresh : Target → List Row → List Write → Bool
are_fresh x rows ws = are_new rows x.table x.from.label.now ws

-- one row, over the rows before the statement with its earlier rows
abbrev pub one_inserted : Target → List Row → List Write → List Value → Result (List Write) Fault
one_inserted x rows earlier values = insert_one (scene_of x rows) x.table x.schema.now earlier values

-- the rows one by one, up to the first refusal
abbrev pub all_inserted : Target → List Row → List (List Value) → Result (List Write) Fault
all_inserted x rows values = insert_all (scene_of x rows) x.table x.schema.now values (Ok [])

-- ---- UPDATE and DELETE

-- each row of the table stands under the key that its values give
abbrev pub are_under_keys : Target → List Row → Bool
are_under_keys x rows = are_keyed x.table x.schema.now.key rows

-- of the rows that the label sees, those of the table of which the condition holds
abbrev pub matched_of : Target → List Row → Option BoundCond → List Row
matched_of x rows cond = matched x.from.tags.now rows x.table cond x.from.label.now

-- a row updated
abbrev pub one_updated : Target → List Row → List BoundAssignment → Row → Result Write Fault
one_updated x rows assignments r = update_one (scene_of x rows) x.schema.now assignments r

-- these rows updated in their order, up to the first refusal
abbrev pub all_updated : Target → List Row → List BoundAssignment → List Row → Result (List Write) Fault
all_updated x rows assignments these = update_all (scene_of x rows) x.schema.now assignments these
