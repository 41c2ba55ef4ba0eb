-- decides: a served database
-- The file of a database, at one moment: a title, and behind it records, whose texts restore a log.
use Rattle.std.specs.Prelude.{◌≡◌, ◌⊎◌, ℕ, ◌≤◌, List, length, drop, Option, Some, None, ⊤}
use Rattle.ifdb_disk.specs.Images.{IsImage}
use Rattle.ifdb_disk.specs.Clock.{Clock, Leaves, Now}
use Rattle.ifdb_journal.specs.declared.record.Record.{Record}
use Rattle.ifdb_journal.specs.Records.{damage, records}
use Rattle.ifdb_log.specs.Pieces.{texts_of}
use Rattle.ifdb_log.specs.Title.{IsLog, IsNew, IsSettled}
use Rattle.ifdb_model.specs.Log.{Entry}
use Rattle.ifdb_restart.specs.Restarted.{log_of}

-- some records are the pieces of these texts, which restore this log
pub record Restore (rs : List Record) (texts : List (List ℕ)) (log : List Entry) : Type 0 where
  pub are : texts_of rs ≡ Some texts
  pub is : log_of texts ≡ Some log

-- bytes that begin with the title, and behind it read whole, as the records of these texts, which restore this log
pub record IsFileOf (texts : List (List ℕ)) (log : List Entry) (bytes : List ℕ) : Type 0 where
  pub titled : IsLog bytes
  pub whole : damage (drop 16 bytes) ≡ None
  pub restores : Restore (records (drop 16 bytes)) texts log

-- a disk holds such bytes, all of them synced, where it tells what it holds
abbrev pub HoldsLog : Option Clock → List (List ℕ) → List Entry → Type 0
HoldsLog t texts log = IsSettled (IsFileOf texts log) t

-- a disk tells what it holds
abbrev pub IsTold : Option Clock → Type 0
IsTold None = ⊥
IsTold (Some c) = ⊤

-- it does, and that is so
abbrev pub ShowsLog : Option Clock → List (List ℕ) → List Entry → Type 0
ShowsLog None texts log = ⊥
ShowsLog (Some c) texts log = HoldsLog (Some c) texts log

-- a disk tells what it holds, and these bytes are the file of a database, whose texts restore this log
abbrev pub IsFileOn : Option Clock → List (List ℕ) → List Entry → Type 0
IsFileOn None texts log = ⊥
IsFileOn (Some c) texts log = IsFileOf texts log c.now.bytes

-- it does, and nothing was kept in it
abbrev pub IsNewOn : Option Clock → Type 0
IsNewOn None = ⊥
IsNewOn (Some c) = IsNew c.now.bytes

-- a file without an entry: it is new, or a title and at most one byte behind it
abbrev pub IsBare : List ℕ → Type 0
IsBare bytes = IsNew bytes ⊎ (IsLog bytes × (length bytes ≤ 17))

-- an image is one of those at a start, or without an entry where the disk was so too
abbrev pub IsOldOrBegun : Option Clock → List ℕ → Type 0
IsOldOrBegun old image = Now old (λ s. IsImage s image ⊎ (IsBare s.bytes × IsBare image))

-- No entry was added: until now each image is one of those at the start, or without an entry where the disk was so too.
abbrev pub IsUnopened : Option Clock → Option Clock → Type 0
IsUnopened disk disk' = Leaves disk disk' (IsOldOrBegun disk)

-- an image is the file as it was; or, as the file was, the title and at most one byte behind it
abbrev pub IsOldOrBare : Option Clock → List ℕ → Type 0
IsOldOrBare old image = Now old (λ s. (image ≡ s.bytes) ⊎ ((length s.bytes ≤ 17) × IsLog image × (length image ≤ 17)))
