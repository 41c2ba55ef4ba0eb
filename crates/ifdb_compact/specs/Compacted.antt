-- decides: a compaction
-- Compacted logs: all public changes in their order, and then all rows in the order of their slots, some at a time.
use Rattle.std.specs.Prelude.{◌≡◌, ℕ, List, [], ◌++◌, map, Some}
use Rattle.ifdb_row.specs.declared.row.Row.{Row}
use Rattle.ifdb_model.specs.Log.{Entry, commits, content_of}
use Rattle.ifdb_model.specs.Step.{Reader}
use Rattle.ifdb_model.specs.Run.{Step}
use Rattle.ifdb_restore.specs.Same.{LeavesSame, RunAlike}
use Rattle.ifdb_restore.specs.Shorter.{changes_of, writing}
use Rattle.ifdb_restart.specs.Restarted.{log_of}
use Rattle.ifdb_extract.specs.Texts.{change_texts, rows_behind}
use Rattle.ifdb_extract.specs.Extracts.{AreTextsOfRows, rows_of}

-- a commit of the rows of each part
abbrev pub commits_each : List (List Row) → List Entry
commits_each parts = map (λ rows. commits (writing rows)) parts

-- a log with the public changes of another, and then commits of all its rows; it leaves the same
pub record IsCompacted (log short : List Entry) : Type 0 where
  pub parts : List (List Row)
  pub rows : rows_of parts ≡ content_of log
  pub is : short ≡ changes_of log ++ commits_each parts
  pub same : LeavesSame short log

-- texts restore a log that is another one, compacted
abbrev pub RestoreCompacted : List (List ℕ) → List Entry → Type 0
RestoreCompacted texts log = (short : List Entry) × (log_of texts ≡ Some short) × IsCompacted log short

-- Where texts restore a log, those of them that are public changes, with commits of all rows behind them, restore the compacted log.
abbrev pub CompactedTextsRestore : Type 0
CompactedTextsRestore = (texts more : List (List ℕ)) (log : List Entry) → log_of texts ≡ Some log → AreTextsOfRows more (rows_behind [] texts)
    → RestoreCompacted (change_texts texts ++ more) log

-- whoever comes later is told the same over both
abbrev pub CompactedLogsAnswerAlike : Type 0
CompactedLogsAnswerAlike = (read : Reader) (log short : List Entry) (steps : List Step) → IsCompacted log short → RunAlike read short log [] steps
