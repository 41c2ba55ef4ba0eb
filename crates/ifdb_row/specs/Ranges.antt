-- Ranges of keys: the keys between two cuts.
use Rattle.std.specs.Prelude.{ℕ, Bool, List, ◌==◌, ◌&&◌, not, filter, Option}
use Rattle.std.specs.Ordering.{is_le, is_lt}
use Rattle.std.specs.declared.cmp.Ordering.{Ordering}
use Rattle.ifdb_value.specs.declared.value.Value.{Value}
use Rattle.ifdb_row.specs.declared.slot.Slot.{Slot}
use Rattle.ifdb_row.specs.declared.row.Row.{Row}
use Rattle.ifdb_row.specs.declared.range.Side.{Side}
use Rattle.ifdb_row.specs.declared.range.Side.TheVariants as side
use Rattle.ifdb_row.specs.declared.range.Cut.{Cut}
use Rattle.ifdb_row.specs.declared.range.KeyRange.{KeyRange}
use Rattle.ifdb_row.specs.Fronts.{front_cmp}
use Rattle.ifdb_row.specs.Questions.{is_past}

-- what stands in this order to the values of a cut stands before it
abbrev pub is_before : Side → Ordering → Bool
is_before side.Before o = is_lt o
is_before side.Behind o = is_le o

-- the key stands before the cut
abbrev pub stands_before : Cut → List Value → Bool
stands_before c key = is_before c.side (front_cmp key c.values)

-- the key lies between the cuts of the range
abbrev pub lies_in : KeyRange → List Value → Bool
lies_in range key = not (stands_before range.low key) && stands_before range.high key

-- the slot is one of the table's range
abbrev pub is_slot_in : ℕ → KeyRange → Slot → Bool
is_slot_in table range s = (s.table == table) && lies_in range s.key

-- a slot of the table before the range's end
abbrev pub is_slot_below : ℕ → KeyRange → Slot → Bool
is_slot_below table range s = (s.table == table) && stands_before range.high s.key

-- a row in such a slot
abbrev pub is_below : ℕ → KeyRange → Row → Bool
is_below table range r = is_slot_below table range r.slot

-- a row of the table's range behind the slot
abbrev pub is_within : ℕ → KeyRange → Option Slot → Row → Bool
is_within table range after r = is_slot_in table range r.slot && is_past after r.slot

-- the rows of the table's range behind the slot
abbrev pub rows_within : ℕ → KeyRange → Option Slot → List Row → List Row
rows_within table range after rows = filter (is_within table range after) rows
