-- What a restart makes of a file, and what a new file holds.
use Rattle.std.specs.Prelude.{◌≡◌, ◌⊎◌, ℕ, List, [], Option, Some}
use Rattle.ifdb_disk.specs.Clock.{Clock}
use Rattle.ifdb_log.specs.Behind.{behind}
use Rattle.ifdb_log.specs.Reading.{IsDamaged}
use Rattle.ifdb_log.specs.Title.{title}
use Rattle.ifdb_model.specs.Log.{Entry}
use Rattle.ifdb_db.specs.Room.{Hall}
use Rattle.ifdb_restart.specs.Restarted.{HasUnfitAt, IsRestarted}
use Rattle.ifdb_reopen.specs.Files.{IsFileOf}

-- What a restart says of a file that restores a log: what it goes on from is that log, and it is never damaged.
pub record IsRestartedAs (t : Option Clock) (log : List Entry) : Type 0 where
  pub same : (at : ℕ) (made : List Entry) (h : Hall) → IsRestarted (behind 16 t) at made h → made ≡ log
  pub whole : (at : ℕ) → IsDamaged (behind 16 t) at ⊎ HasUnfitAt (behind 16 t) at → ⊥

abbrev pub FilesAreRestarted : Type 0
FilesAreRestarted = (c : Clock) (texts : List (List ℕ)) (log : List Entry) → IsFileOf texts log c.now.bytes → IsRestartedAs (Some c) log

-- The title alone is the file of no log.
abbrev pub TitleIsAFile : Type 0
TitleIsAFile = IsFileOf [] [] title
