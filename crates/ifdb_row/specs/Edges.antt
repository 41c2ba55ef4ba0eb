-- Places between slots.
use Rattle.std.specs.Prelude.{ℕ, Bool, List, ◌==◌, nat_lt, not, if◌then◌else◌}
use Rattle.std.specs.Ordering.{is_le, is_lt}
use Rattle.ifdb_value.specs.declared.value.Value.{Value}
use Rattle.ifdb_row.specs.declared.slot.Slot.{Slot}
use Rattle.ifdb_row.specs.declared.edge.Edge.{Edge}
use Rattle.ifdb_row.specs.declared.edge.Edge.TheVariants.{Table, Key, Past, At, Behind}
use Rattle.ifdb_row.specs.Slots.{key_cmp, slot_lt}
use Rattle.ifdb_row.specs.Fronts.{front_cmp}

-- the slot with these parts
abbrev pub slot_at : ℕ → List Value → List ℕ → Slot
slot_at table key label = record { table = table; key = key; label = label }

-- the slot stands before the edge
abbrev pub lies_before : Edge → Slot → Bool
lies_before (Table t) s = nat_lt s.table t
lies_before (Key t k) s = if s.table == t then is_lt (key_cmp s.key k.now) else nat_lt s.table t
lies_before (Past t k) s = if s.table == t then is_le (front_cmp s.key k.now) else nat_lt s.table t
lies_before (At t k l) s = slot_lt s (slot_at t k.now l.now)
lies_before (Behind t k l) s = not (slot_lt (slot_at t k.now l.now) s)
