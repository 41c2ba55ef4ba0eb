-- All rows, walked text by text.
use Rattle.std.specs.Prelude.{◌≡◌, ℕ, ◌<◌, List, ◌++◌, length, Option, Some}
use Rattle.std.specs.List.{flat_map}
use Rattle.ifdb_disk.specs.Clock.{Clock}
use Rattle.ifdb_log.specs.Pieces.{pieces}
use Rattle.ifdb_redo.specs.declared.record.RedoRecord.TheVariants as redo
use Rattle.ifdb_redo.specs.Reading.{record_of}
use Rattle.ifdb_row.specs.declared.row.Row.{Row}
use Rattle.ifdb_row.specs.declared.edge.Edge.{Edge}
use Rattle.ifdb_row.specs.Questions.{rows_from}
use Rattle.ifdb_restore.specs.Shorter.{writing}
use Rattle.ifdb_extract.specs.Extracts.{AreTextsOfRows}
use Rattle.ifdb_extract.specs.Writing.{Puts, Writing}

-- A text is the commit of the next of some rows, at least one, of which those from one edge on are left before and those from another
-- on behind them.
pub record IsNextText (rows : List Row) (e f : Edge) (text : List ℕ) : Type 0 where
  pub run : List Row
  pub read : record_of text ≡ Some (redo.Commit (writing run))
  pub split : rows_from e rows ≡ run ++ rows_from f rows
  pub fewer : length (rows_from f rows) < length (rows_from e rows)

-- the records of commits of all rows were put behind those that there were
abbrev pub PutsRows : List Row → Option Clock → Writing → Option Clock → Writing → Type 0
PutsRows rows t w u v = (more : List (List ℕ)) × AreTextsOfRows more rows × Puts (flat_map pieces more) t w u v
