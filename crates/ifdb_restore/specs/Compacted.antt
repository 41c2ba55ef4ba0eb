-- A compacted list of records: those of public changes, in their order, and then one of all rows.
use Rattle.std.specs.Prelude.{◌≡◌, true, List, [], ◌∷◌, ◌++◌, Some}
use Rattle.ifdb_model.specs.Log.{content_of}
use Rattle.ifdb_model.specs.Step.{Reader}
use Rattle.ifdb_model.specs.Run.{opening, Step, run}
use Rattle.ifdb_restore.specs.Redone.{Test, records, restored}
use Rattle.ifdb_redo.specs.declared.record.RedoRecord.{RedoRecord}
use Rattle.ifdb_redo.specs.declared.record.RedoRecord.TheVariants as redo
use Rattle.ifdb_restore.specs.Shorter.{changes_of, writing, shorter}

-- the records of public changes
abbrev pub asked_only : List RedoRecord → List RedoRecord
asked_only [] = []
asked_only (redo.Change asker line ∷ rs) = redo.Change asker line ∷ asked_only rs
asked_only (redo.Commit ws ∷ rs) = asked_only rs

-- They restore the changes alone; with a record of all rows they restore the shorter log, where the rows pass the test.
pub record IsCompacted (read : Reader) (fits : Test) (steps : List Step) : Type 0 where
  pub changes : restored read fits [] (asked_only (records read opening steps)) ≡ Some (changes_of (run read opening steps).log)
  pub whole : let log = (run read opening steps).log in fits (changes_of log) (writing (content_of log)) ≡ true
      → restored read fits [] (asked_only (records read opening steps) ++ redo.Commit (writing (content_of log)) ∷ []) ≡ Some (shorter log)

abbrev pub CompactedRestore : Type 0
CompactedRestore = (read : Reader) (fits : Test) (steps : List Step) → IsCompacted read fits steps
