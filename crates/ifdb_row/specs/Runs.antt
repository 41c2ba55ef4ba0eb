-- Rows side by side.
use Rattle.std.specs.Prelude.{ℕ, ◌-◌, List, [], ◌∷◌, slice_get, take, drop}
use Rattle.ifdb_value.specs.declared.value.Value.{Value}
use Rattle.ifdb_value.specs.Lists.{listed}
use Rattle.ifdb_row.specs.declared.slot.Slot.{Slot}
use Rattle.ifdb_row.specs.declared.row.Row.{Row}
use Rattle.ifdb_row.specs.declared.even_run.EvenRun.{EvenRun}
use Rattle.ifdb_row.specs.declared.even_run.Head.{Head}
use Rattle.ifdb_row.specs.declared.run.Run.{Run}
use Rattle.ifdb_row.specs.declared.run.Run.TheVariants.{Loose, Even}

-- the row with this head and these parents, whose key and values stand in front of a list of values
abbrev pub even_row : ℕ → ℕ → Head → List Slot → List Value → Row
even_row key width head refs cells = record {
  slot = record { table = head.table; key = take key cells; label = head.label };
  values = take (width - key) (drop key cells);
  refs = refs;
}

-- the rows with these heads, whose keys and values stand one behind the other
abbrev pub even_rows : ℕ → ℕ → List Head → List (List Slot) → List Value → List Row
even_rows key width [] refs cells = []
even_rows key width (head ∷ heads) refs cells =
    even_row key width head (listed (slice_get refs 0)) cells ∷ even_rows key width heads (drop 1 refs) (drop width cells)

-- the rows of an even run
abbrev pub rows_even : EvenRun → List Row
rows_even r = even_rows r.key r.width r.heads.now r.refs.now r.cells.now

-- the rows of a run
abbrev pub rows_in : Run → List Row
rows_in (Loose rows) = rows.now
rows_in (Even r) = rows_even r
