-- How many rows stand in a slot.
use Rattle.std.specs.Prelude.{ℕ, List, if◌then◌else◌}
use Rattle.std.specs.List.{list_any}
use Rattle.ifdb_row.specs.declared.slot.Slot.{Slot}
use Rattle.ifdb_row.specs.declared.row.Row.{Row}
use Rattle.ifdb_row.specs.Slots.{is_same_slot}

-- one, if the slot is taken
abbrev pub stands : Slot → List Row → ℕ
stands s rows = if list_any (λ (r : Row). is_same_slot s r.slot) rows then 1 else 0
