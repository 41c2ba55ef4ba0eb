-- decides: a compaction
-- What an extract is written as: the texts of its public changes, and then those of commits of all its rows, some rows at a time.
use Rattle.std.specs.Prelude.{◌≡◌, ℕ, ◌-◌, ◌^◌, List, [], ◌∷◌, ◌++◌, map, min, Option, Some}
use Rattle.std.specs.List.{flat_map}
use Rattle.ifdb_disk.specs.Clock.{Clock}
use Rattle.ifdb_journal.specs.Records.{bytes_of}
use Rattle.ifdb_log.specs.Pieces.{pieces}
use Rattle.ifdb_log.specs.Reading.{HoldsTexts}
use Rattle.ifdb_redo.specs.declared.record.RedoRecord.{RedoRecord}
use Rattle.ifdb_redo.specs.declared.record.RedoRecord.TheVariants as redo
use Rattle.ifdb_redo.specs.Reading.{record_of}
use Rattle.ifdb_row.specs.declared.row.Row.{Row}
use Rattle.ifdb_restore.specs.Shorter.{writing}
use Rattle.ifdb_extract.specs.Texts.{Extracted}

-- ---- rows in parts

-- the rows of some parts, in their order
abbrev pub rows_of : List (List Row) → List Row
rows_of [] = []
rows_of (rows ∷ parts) = rows ++ rows_of parts

-- the record of a commit of the rows of each part
abbrev pub records_each : List (List Row) → List RedoRecord
records_each parts = map (λ rows. redo.Commit (writing rows)) parts

-- some texts are commits of all these rows, some rows at a time
pub record AreTextsOfRows (texts : List (List ℕ)) (rows : List Row) : Type 0 where
  pub parts : List (List Row)
  pub all : rows_of parts ≡ rows
  pub are : map record_of texts ≡ map Some (records_each parts)

-- ---- on a disk

-- a disk holds the public changes of an extract, and then commits of all its rows, and no more
pub record HoldsExtract (t : Option Clock) (x : Extracted) : Type 0 where
  pub more : List (List ℕ)
  pub at : ℕ
  pub rows : AreTextsOfRows more x.rows
  pub holds : HoldsTexts t (x.changes ++ more) at

-- how many bytes of a journal some texts take
abbrev pub log_size : List (List ℕ) → ℕ
log_size texts = bytes_of (flat_map pieces texts)

-- So many bytes, or 2^64 - 1 where they are more, are what the texts of an extract take: its public changes, and then commits of all
-- its rows.
pub record IsSizeOf (n : ℕ) (x : Extracted) : Type 0 where
  pub more : List (List ℕ)
  pub rows : AreTextsOfRows more x.rows
  pub is : n ≡ min (log_size (x.changes ++ more)) (2 ^ 64 - 1)
