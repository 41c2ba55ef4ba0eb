-- Slots and rows by reference.
use Rattle.std.specs.Prelude.{Option, Some, None}
use Rattle.std.specs.Option.{option_copied}
use Rattle.ifdb_value.specs.Lists.{listed}
use Rattle.ifdb_row.specs.declared.slot.Slot.{Slot}
use Rattle.ifdb_row.specs.declared.slot.SlotRef.{SlotRef}
use Rattle.ifdb_row.specs.declared.row.Row.{Row}
use Rattle.ifdb_row.specs.declared.row.RowRef.{RowRef}

-- the slot that is referred to
abbrev pub slot_of : SlotRef → Slot
slot_of s = record { table = s.table.now; key = s.key.now; label = s.label.now }

-- the row that is referred to
abbrev pub row_of : RowRef → Row
row_of r = record { slot = slot_of r.slot; values = r.values.now; refs = listed (option_copied r.refs) }

-- the slot that is referred to, if there is one
abbrev pub option_slot : Option SlotRef → Option Slot
option_slot None = None
option_slot (Some s) = Some (slot_of s)

-- the row that is referred to, if there is one
abbrev pub option_row : Option RowRef → Option Row
option_row None = None
option_row (Some r) = Some (row_of r)
