-- What an INSERT has written so far.
use Rattle.std.specs.Prelude.{ℕ, Bool, List, ◌==◌, ◌&&◌, not}
use Rattle.std.specs.List.{list_all, list_any}
use Rattle.ifdb_row.specs.declared.slot.Slot.{Slot}
use Rattle.ifdb_row.specs.declared.row.Row.{Row}
use Rattle.ifdb_row.specs.declared.write.Write.{Write}
use Rattle.ifdb_row.specs.Slots.{is_same_slot, is_same_label}
use Rattle.ifdb_row.specs.Writes.{is_gone}

-- some row stands in the slot
abbrev pub is_taken : Slot → List Row → Bool
is_taken slot rows = list_any (λ (r : Row). is_same_slot slot r.slot) rows

-- the write brings a row to a slot of this table and label in which none stood
abbrev pub is_new : List Row → ℕ → List ℕ → Write → Bool
is_new rows table label w =
    not (is_gone w.row) && (not (is_taken w.slot rows) && ((w.slot.table == table) && is_same_label w.slot.label label))

-- so does each write
abbrev pub are_new : List Row → ℕ → List ℕ → List Write → Bool
are_new rows table label ws = list_all (is_new rows table label) ws
