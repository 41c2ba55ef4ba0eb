-- A front of some records restores as long a front of the log that all of them restore.
use Rattle.std.specs.Prelude.{◌≡◌, ℕ, List, [], length, take, Some}
use Rattle.ifdb_redo.specs.declared.record.RedoRecord.{RedoRecord}
use Rattle.ifdb_model.specs.Log.{Entry}
use Rattle.ifdb_model.specs.Step.{Reader}
use Rattle.ifdb_restore.specs.Redone.{Test, restored}

-- each record restores one entry, and fronts restore fronts
pub record IsFronted (read : Reader) (fits : Test) (rs : List RedoRecord) (log : List Entry) : Type 0 where
  pub count : length log ≡ length rs
  pub front : (n : ℕ) → restored read fits [] (take n rs) ≡ Some (take n log)

abbrev pub FrontsRestore : Type 0
FrontsRestore = (read : Reader) (fits : Test) (rs : List RedoRecord) (log : List Entry) → restored read fits [] rs ≡ Some log → IsFronted read fits rs log
