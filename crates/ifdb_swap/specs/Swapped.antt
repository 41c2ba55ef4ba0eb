-- decides: a compaction
-- A database's file that was compacted to another.
use Rattle.std.specs.Prelude.{◌≡◌, ◌⊎◌, ℕ, ◌≤◌, Bool, false, List, [], length, Option, Some, None}
use Rattle.ifdb_disk.specs.Clock.{Clock, Leaves, Now}
use Rattle.ifdb_log.specs.Behind.{behind}
use Rattle.ifdb_log.specs.Title.{IsLog, IsOther, IsSettled}
use Rattle.ifdb_model.specs.Log.{Entry}
use Rattle.ifdb_restart.specs.Restarted.{log_of}
use Rattle.ifdb_reopen.specs.Files.{IsFileOf, IsFileOn, IsNewOn, IsTold, IsUnopened, ShowsLog}
use Rattle.ifdb_extract.specs.Texts.{Extracted, extract_of}
use Rattle.ifdb_extract.specs.Extracts.{HoldsExtract, IsSizeOf}
use Rattle.ifdb_compact.specs.Compacted.{IsCompacted}
use Rattle.ifdb_extract.specs.Worth.{is_worth}

-- ---- the file that is read

-- a disk tells that it holds the file of a log; a new file is that of no entries
abbrev pub HasLog : Option Clock → List Entry → Type 0
HasLog t log = ((texts : List (List ℕ)) × IsFileOn t texts log) ⊎ (IsNewOn t × (log ≡ []))

-- it holds none
abbrev pub HasNoLog : Option Clock → Type 0
HasNoLog t = (log : List Entry) → HasLog t log → ⊥

-- No entry was added to a disk. If it held the file of a log, all of it synced, each image since then is the file of that log.
pub record IsKept (t u : Option Clock) : Type 0 where
  pub unopened : IsUnopened t u
  pub file : (texts : List (List ℕ)) (log : List Entry) → ShowsLog t texts log → Leaves t u (IsFileOf texts log)

-- this is what some texts come to that restore the log
abbrev pub IsExtractFor : Extracted → List Entry → Type 0
IsExtractFor x log = (texts : List (List ℕ)) × (log_of texts ≡ Some log) × (x ≡ extract_of texts)

-- where a disk tells what it holds, it holds the file of a log, and this is what the log comes to
abbrev pub IsExtractIn : Option Clock → Extracted → Type 0
IsExtractIn t x = IsTold t → (log : List Entry) × HasLog t log × IsExtractFor x log

-- ---- whether it is worth it

-- the records of the compacted log take so many bytes
abbrev pub IsCompactedSize : ℕ → List Entry → Type 0
IsCompactedSize n log = (x : Extracted) × IsExtractFor x log × IsSizeOf n x

-- given what the records of the log then take that a disk holds, it is worth to compact it, or not
abbrev pub IsWorth : Bool → Option Clock → Type 0
IsWorth answer t = Now t (λ s. (log : List Entry) × (n : ℕ) × HasLog t log × IsCompactedSize n log × (is_worth (length s.bytes) n ≡ answer))

-- a disk has at most 64 MiB, or it isn't worth to compact what it holds
abbrev pub IsUnneeded : Option Clock → Type 0
IsUnneeded t = Now t (λ s. length s.bytes ≤ 67108864) ⊎ IsWorth false t

-- ---- the file that is written

-- a disk tells that it holds another file
abbrev pub IsOtherOn : Option Clock → Type 0
IsOtherOn None = ⊥
IsOtherOn (Some c) = IsOther c.now.bytes

-- a disk tells that it holds the title, and behind it a log of an extract
pub record HoldsFileOf (t : Option Clock) (x : Extracted) : Type 0 where
  pub told : IsTold t
  pub titled : IsSettled IsLog t
  pub holds : HoldsExtract (behind 16 t) x

-- a disk tells that it holds the file of a log, compacted
pub record HoldsCompacted (t : Option Clock) (log : List Entry) : Type 0 where
  pub texts : List (List ℕ)
  pub short : List Entry
  pub shows : ShowsLog t texts short
  pub compacted : IsCompacted log short

-- ---- the one in the place of the other

-- A disk held a log, and was read alone as long as it had its name. The one that has the name now holds the file of the compacted log.
pub record IsSwapped (disk old now : Option Clock) : Type 0 where
  pub log : List Entry
  pub held : HasLog disk log
  pub kept : IsKept disk old
  pub compacted : HoldsCompacted now log
