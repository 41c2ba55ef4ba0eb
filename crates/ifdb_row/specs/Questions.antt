-- Questions to rows.
use Rattle.std.specs.Prelude.{◌≡◌, ℕ, Bool, true, List, [], ◌==◌, ◌++◌, ◌&&◌, find, filter, not, Option, Some, None, if◌then◌else◌}
use Rattle.std.specs.List.{list_any}
use Rattle.std.specs.Borrow.{Bor}
use Rattle.std.specs.Option.{option_copied}
use Rattle.std.specs.Ordering.{is_lt}
use Rattle.ifdb_value.specs.declared.value.Value.{Value}
use Rattle.ifdb_row.specs.declared.slot.Slot.{Slot}
use Rattle.ifdb_row.specs.declared.slot.SlotRef.{SlotRef}
use Rattle.ifdb_row.specs.declared.row.Row.{Row}
use Rattle.ifdb_row.specs.declared.edge.Edge.{Edge}
use Rattle.ifdb_row.specs.Slots.{label_cmp, slot_lt, is_same_slot, is_of_key}
use Rattle.ifdb_row.specs.ByReference.{option_slot, slot_of}
use Rattle.ifdb_row.specs.Edges.{lies_before}
use Rattle.ifdb_row.specs.Reach.{skip}

-- a slot behind another, if there is one to be behind
abbrev pub is_past : Option Slot → Slot → Bool
is_past None s = true
is_past (Some q) s = slot_lt q s

-- a label behind another, if there is one to be behind
abbrev pub is_past_label : Option (List ℕ) → List ℕ → Bool
is_past_label None l = true
is_past_label (Some m) l = is_lt (label_cmp m l)

-- a row of the table behind the slot
abbrev pub is_later : ℕ → Option Slot → Row → Bool
is_later table after r = (r.slot.table == table) && is_past after r.slot

-- a row of the table's key behind the label
abbrev pub is_further : ℕ → List Value → Option (List ℕ) → Row → Bool
is_further table key after r = is_of_key table key r.slot && is_past_label after r.slot.label

-- the row is bound to the slot
abbrev pub is_child_of : Slot → Row → Bool
is_child_of s r = list_any (is_same_slot s) r.refs

-- the row is bound to a slot, and stands behind another
abbrev pub is_next_child : Slot → Option Slot → Row → Bool
is_next_child s after r = is_child_of s r && is_past after r.slot

-- the table's first row behind the slot
abbrev pub next_row : ℕ → Option Slot → List Row → Option Row
next_row table after rows = find (is_later table after) rows

-- the row in the slot
abbrev pub row_at : Slot → List Row → Option Row
row_at s rows = find (λ (r : Row). is_same_slot s r.slot) rows

-- the key's first row behind the label
abbrev pub row_of_key : ℕ → List Value → Option (List ℕ) → List Row → Option Row
row_of_key table key after rows = find (is_further table key after) rows

-- the first row behind the slot that is bound to another slot
abbrev pub row_bound_to : Slot → Option Slot → List Row → Option Row
row_bound_to s after rows = find (is_next_child s after) rows

-- the table's rows behind the slot
abbrev pub later_rows : ℕ → Option Slot → List Row → List Row
later_rows table after rows = filter (is_later table after) rows

-- the rows from an edge on
abbrev pub rows_from : Edge → List Row → List Row
rows_from e rows = skip (λ (r : Row). lies_before e r.slot) rows

-- the first row from an edge on
abbrev pub first_row_from : Edge → List Row → Option Row
first_row_from e rows = find (λ (r : Row). not (lies_before e r.slot)) rows

-- ---- the same questions, behind a slot by reference or a label that is lent, if one is

abbrev pub next_behind : ℕ → Option SlotRef → List Row → Option Row
next_behind table after rows = next_row table (option_slot after) rows

abbrev pub of_key_behind : ℕ → List Value → Option (Bor (List ℕ)) → List Row → Option Row
of_key_behind table key after rows = row_of_key table key (option_copied after) rows

abbrev pub bound_behind : SlotRef → Option SlotRef → List Row → Option Row
bound_behind s after rows = row_bound_to (slot_of s) (option_slot after) rows

abbrev pub rows_behind : ℕ → Option SlotRef → List Row → List Row
rows_behind table after rows = later_rows table (option_slot after) rows

-- the first rows of a list: at least one, where it has any
pub record IsRun (run : List Row) (rows : List Row) : Type 0 where
  pub rest : List Row
  pub front : rows ≡ run ++ rest
  pub some : run ≡ [] → rows ≡ []

-- the row, if it is there and passes
abbrev pub if_passes : (Row → Bool) → Option Row → Option Row
if_passes t None = None
if_passes t (Some r) = if t r then Some r else None

-- the row stands in the slot
abbrev pub stands_in : Slot → Row → Bool
stands_in s r = is_same_slot s r.slot

-- the row is of the table's key
abbrev pub has_key : ℕ → List Value → Row → Bool
has_key table key r = is_of_key table key r.slot

-- of two rows that may be there, the one that stands first
abbrev pub earlier : Option Row → Option Row → Option Row
earlier None o = o
earlier (Some r) None = Some r
earlier (Some r) (Some s) = if slot_lt s.slot r.slot then Some s else Some r
