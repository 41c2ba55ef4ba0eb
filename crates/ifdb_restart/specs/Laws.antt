-- What a restart makes of a served database's records.
use Rattle.std.specs.Prelude.{◌≡◌, ℕ, ◌+◌, List, ◌++◌, length, take, map, Some}
use Rattle.ifdb_redo.specs.declared.record.RedoRecord.{RedoRecord}
use Rattle.ifdb_redo.specs.Reading.{record_of}
use Rattle.ifdb_model.specs.Log.{Entry}
use Rattle.ifdb_model.specs.Run.{opening, Step, run}
use Rattle.ifdb_restore.specs.Redone.{records}
use Rattle.ifdb_db.specs.Reading.{read_line}
use Rattle.ifdb_db.specs.Redoing.{closed_state}
use Rattle.ifdb_restart.specs.Restarted.{log_of}

-- texts are read as these records
abbrev pub AreTextsOf : List (List ℕ) → List RedoRecord → Type 0
AreTextsOf texts rs = map record_of texts ≡ map Some rs

-- the first texts of a run's records restore the first entries of its log, one each
abbrev pub FirstTextsRestoreAFront : Type 0
FirstTextsRestoreAFront = (steps : List Step) (texts : List (List ℕ)) (n : ℕ) → AreTextsOf texts (records read_line opening steps)
    → log_of (take n texts) ≡ Some (take n (run read_line opening steps).log)

-- Behind texts that restored a log, these texts restore a longer one: each restores one entry, so the first of them restore as many of
-- its further entries.
pub record RestoreOneEach (before : List (List ℕ)) (first : List Entry) (texts : List (List ℕ)) (log : List Entry) : Type 0 where
  pub count : length log ≡ length first + length texts
  pub front : (n : ℕ) → log_of (before ++ take n texts) ≡ Some (take (length first + n) log)

-- So do the texts of the records of a run that begins at a log which texts restored, whatever wrote these.
abbrev pub FirstTextsAddAFront : Type 0
FirstTextsAddAFront = (before : List (List ℕ)) (first : List Entry) (steps : List Step) (texts : List (List ℕ))
    → log_of before ≡ Some first → AreTextsOf texts (records read_line (closed_state first) steps)
    → RestoreOneEach before first texts (run read_line (closed_state first) steps).log
