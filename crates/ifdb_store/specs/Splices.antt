-- Rows put into a gap between others.
use Rattle.std.specs.Prelude.{List, ◌++◌, take, drop}
use Rattle.ifdb_value.specs.declared.value.Value.{Value}
use Rattle.ifdb_row.specs.declared.row.Row.{Row}
use Rattle.ifdb_row.specs.declared.even_run.EvenRun.{EvenRun}
use Rattle.ifdb_row.specs.Runs.{even_rows}
use Rattle.ifdb_store.specs.declared.splice.Gap.{Gap}
use Rattle.ifdb_store.specs.declared.splice.Inset.{Inset}

-- rows in the place of those that make way
abbrev pub put_in : Gap → List Row → List Row → List Row
put_in gap new rows = take gap.from rows ++ (new ++ drop gap.to rows)

-- the values of an inset
abbrev pub cells_put : Inset → List Value
cells_put i = i.key.now ++ i.values.now

-- the rows of an inset, among rows of a run
abbrev pub rows_put : EvenRun → Inset → List Row
rows_put run i = even_rows run.key run.width i.heads.now i.refs.now (cells_put i)
