-- Rows that have as many values as one another, and their parts.
use Rattle.std.specs.Prelude.{Bool, List, [], ◌++◌, ◌-◌, ◌==◌, ◌&&◌, length, map, if◌then◌else◌}
use Rattle.std.specs.List.{list_all}
use Rattle.ifdb_value.specs.declared.value.Value.{Value}
use Rattle.ifdb_row.specs.declared.slot.Slot.{Slot}
use Rattle.ifdb_row.specs.declared.row.Row.{Row}
use Rattle.ifdb_row.specs.declared.even_run.Head.{Head}
use Rattle.ifdb_store.specs.declared.even.Shape.{Shape}

-- the row has so many values in its key, and so many with those that it holds
abbrev pub has_shape : Shape → Row → Bool
has_shape shape r = (length r.slot.key == shape.key) && (length r.values == shape.width - shape.key)

-- its table and label
abbrev pub head_in : Row → Head
head_in r = record { table = r.slot.table; label = r.slot.label }

-- its key, and behind it what it holds
abbrev pub cells_in : Row → List Value
cells_in r = r.slot.key ++ r.values

-- it refers to nothing
abbrev pub is_unbound : Row → Bool
is_unbound r = length r.refs == 0

-- what rows refer to, or the empty list where none refers to anything
abbrev pub refs_in : List Row → List (List Slot)
refs_in rows = if list_all is_unbound rows then [] else map (λ (r : Row). r.refs) rows
