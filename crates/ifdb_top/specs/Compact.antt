-- decides: the program
-- What the program does by the words of `compact`.
use Rattle.std.specs.Prelude.{◌≡◌, ◌⊎◌, ℕ, ◌<◌, ◌++◌, true, false, List, String, codes, length, None, Result, Ok, Err, Bool, Some}
use Rattle.std.specs.declared.alloc.Global.{Global}
use Rattle.ifdb_io.specs.declared.outside.Sink as sink
use Rattle.ifdb_disk.specs.declared.disk.Disk as disk
use Rattle.ifdb_folder.specs.declared.folder.Folder as folder
use Rattle.ifdb_folder.specs.Folders.{IsThere}
use Rattle.ifdb_log.specs.declared.fault.LogFault.{LogFault}
use Rattle.ifdb_log.specs.declared.fault.LogFault.TheVariants as fault
use Rattle.ifdb_swap.specs.Folders.{Compacts}
use Rattle.ifdb_swap.specs.declared.fault.CompactFault.{CompactFault}
use Rattle.ifdb_swap.specs.declared.fault.CompactFault.TheVariants as compacted
use Rattle.ifdb_swap.specs.declared.fault.SpareFault.{SpareFault}
use Rattle.ifdb_swap.specs.declared.fault.SpareFault.TheVariants as spare
use Rattle.ifdb_swap.specs.declared.when.When.{When}
use Rattle.ifdb_swap.specs.declared.when.When.TheVariants.{Always, IfWorth}
use Rattle.ifdb_words.specs.OneFile.{one_file_in}
use Rattle.ifdb_words.specs.First.{is_first}
use Rattle.ifdb_top.specs.declared.base.Status.TheVariants as status
use Rattle.ifdb_top.specs.declared.more.MoreStatus.TheVariants.{Base, Damaged}
use Rattle.ifdb_top.specs.declared.status.HostStatus.{HostStatus}
use Rattle.ifdb_top.specs.declared.status.HostStatus.TheVariants.{More, DiskFault, NotADatabase, SpareTaken}
use Rattle.ifdb_top.specs.Ends.{OnMore}
use Rattle.ifdb_top.specs.Lending.{GaveNone}
use Rattle.ifdb_top.specs.Usage.{WritesUsage}

abbrev pub compact_usage : List ℕ
compact_usage = codes "usage: ifdb compact --file F\n"

-- the first word
abbrev pub IsCompact : List (String Global) → Type 0
IsCompact words = is_first (codes "compact") words ≡ true

-- the name of the file that a database is compacted to
abbrev pub spare_of : List ℕ → List ℕ
spare_of name = name ++ codes ".new"

-- ---- statuses

-- where the database wasn't read
abbrev pub read_status : LogFault → HostStatus
read_status fault.Disk = DiskFault
read_status fault.NotALog = NotADatabase
read_status (fault.Damaged at) = More (Damaged at)
read_status fault.OutOfMemory = More (Base status.OutOfMemory)

-- where the new file wasn't written
abbrev pub write_status : SpareFault → HostStatus
write_status spare.Disk = DiskFault
write_status spare.NotALog = SpareTaken
write_status spare.OutOfMemory = More (Base status.OutOfMemory)

-- the status of an end
abbrev pub compact_status : Result Bool CompactFault → HostStatus
compact_status (Ok done) = More (Base status.Done)
compact_status (Err compacted.Folder) = DiskFault
compact_status (Err (compacted.Read f)) = read_status f
compact_status (Err (compacted.Write f)) = write_status f

-- ---- what became of the file

module _ {F D : Type 0} (folders : folder.Ghosts F D) (disks : disk.Ghosts D) where
  -- `compact_in` was called, and ended so
  abbrev pub CompactsTo : When → List ℕ → F → F → Result Bool CompactFault → Type 0
  CompactsTo when name before after r =
      Compacts disks.tells disks.faults when name (spare_of name) (folders.tells before) (folders.tells after) (folders.faults before) (folders.faults after) r

  -- before a database is served it was compacted where that is worth it, however that ended; or nothing was done
  abbrev pub IsReadied : List ℕ → F → F → Type 0
  IsReadied name before after = (after ≡ before) ⊎ ((r : Result Bool CompactFault) × CompactsTo IfWorth name before after r)

  -- The database was compacted to this end; or nothing was done, since there was no memory, or the new file's name would be too long.
  abbrev pub CompactsThere : List ℕ → F → F → HostStatus → Type 0
  CompactsThere name before after end =
      ((r : Result Bool CompactFault) × (end ≡ compact_status r) × CompactsTo Always name before after r)
      ⊎ ((after ≡ before) × ((end ≡ More (Base status.OutOfMemory)) ⊎ ((end ≡ DiskFault) × (251 < length name))))

  -- the folder was asked whether something has the name
  abbrev pub Looks : List ℕ → Bool → F → F → Type 0
  Looks name there before after = (folders.tells after ≡ folders.tells before) × IsThere name there (folders.tells before)

  -- A file has the name, and was compacted. Or none has it, or that isn't known, and none has come.
  abbrev pub CompactsFile : List ℕ → F → F → HostStatus → Type 0
  CompactsFile name before after end =
      ((looked : F) × Looks name true before looked × CompactsThere name looked after end)
      ⊎ ((end ≡ DiskFault) × (Looks name false before after ⊎ GaveNone folders before after))

  -- the words behind `compact`, unless there was no memory to read them
  pub record DoesCompact {O : Type 0} (outputs : sink.Ghosts O) (output output' : O) (before after : F) (words : List (List ℕ)) (end : HostStatus) : Type 0 where
    pub well_formed : (name : List ℕ) → one_file_in words ≡ Some name
        → (CompactsFile name before after end ⊎ ((end ≡ More (Base status.OutOfMemory)) × (after ≡ before))) × (output' ≡ output)
    pub malformed : one_file_in words ≡ None → OnMore end (WritesUsage outputs compact_usage output output') × (after ≡ before)
