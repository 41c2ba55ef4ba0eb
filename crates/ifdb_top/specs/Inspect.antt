-- decides: the program
-- What the program does by the words of `inspect`.
use Rattle.std.specs.Prelude.{◌≡◌, ◌⊎◌, ℕ, ◌++◌, true, false, List, String, codes, None, Result, Ok, Err, Some}
use Rattle.std.specs.Io.KnownBytes.{Appends}
use Rattle.std.specs.declared.alloc.Global.{Global}
use Rattle.ifdb_io.specs.Causes.{Rose, WritesShort}
use Rattle.ifdb_io.specs.declared.outside.Sink as sink
use Rattle.ifdb_disk.specs.declared.disk.Disk as disk
use Rattle.ifdb_folder.specs.declared.folder.Folder as folder
use Rattle.ifdb_service.specs.Summary.{numbered_line}
use Rattle.ifdb_swap.specs.Inspections.{Inspects}
use Rattle.ifdb_swap.specs.declared.inspection.InspectFault.{InspectFault}
use Rattle.ifdb_swap.specs.declared.inspection.InspectFault.TheVariants as fault
use Rattle.ifdb_swap.specs.declared.inspection.Inspection.{Inspection}
use Rattle.ifdb_words.specs.First.{is_first}
use Rattle.ifdb_words.specs.OneFile.{one_file_in}
use Rattle.ifdb_top.specs.declared.base.Status.TheVariants as status
use Rattle.ifdb_top.specs.declared.more.MoreStatus.TheVariants.{Base}
use Rattle.ifdb_top.specs.declared.status.HostStatus.{HostStatus}
use Rattle.ifdb_top.specs.declared.status.HostStatus.TheVariants.{More, DiskFault}
use Rattle.ifdb_top.specs.Compact.{Looks, read_status}
use Rattle.ifdb_top.specs.Ends.{OnMore}
use Rattle.ifdb_top.specs.Lending.{GaveNone}
use Rattle.ifdb_top.specs.Usage.{WritesUsage}

abbrev pub inspect_usage : List ℕ
inspect_usage = codes "usage: ifdb inspect --file F\n"

-- the first word
abbrev pub IsInspect : List (String Global) → Type 0
IsInspect words = is_first (codes "inspect") words ≡ true

-- what is written of a database
abbrev pub inspection_text : Inspection → List ℕ
inspection_text i = numbered_line (codes "changes") i.changes ++ numbered_line (codes "rows") i.rows

module _ {O : Type 0} (outputs : sink.Ghosts O) where
  -- a text was written whole, or a front of it where the output failed
  abbrev pub WritesText : List ℕ → O → O → HostStatus → Type 0
  WritesText text output output' end =
      ((end ≡ More (Base status.Done)) × Appends (outputs.written output) (outputs.written output') text)
      ⊎ ((end ≡ More (Base status.WriteFault)) × Rose (outputs.faults output) (outputs.faults output')
      × WritesShort (outputs.written output) (outputs.written output') text)

  -- what was found of a database was written; where nothing was found, the status says why
  abbrev pub TellsFound : Result Inspection InspectFault → O → O → HostStatus → Type 0
  TellsFound (Ok i) output output' end = WritesText (inspection_text i) output output' end
  TellsFound (Err fault.Folder) output output' end = (end ≡ DiskFault) × (output' ≡ output)
  TellsFound (Err (fault.Read f)) output output' end = (end ≡ read_status f) × (output' ≡ output)

module _ {F D O : Type 0} (folders : folder.Ghosts F D) (disks : disk.Ghosts D) (outputs : sink.Ghosts O) where
  -- the database was read alone, and told of
  abbrev pub InspectsThere : List ℕ → O → O → F → F → HostStatus → Type 0
  InspectsThere name output output' before after end =
      (r : Result Inspection InspectFault)
      × Inspects disks.tells disks.faults name (folders.tells before) (folders.tells after) (folders.faults before) (folders.faults after) r
      × TellsFound outputs r output output' end

  -- A file has the name, and was looked through. Or none has it, or that isn't known, and none has come.
  abbrev pub InspectsFile : List ℕ → O → O → F → F → HostStatus → Type 0
  InspectsFile name output output' before after end =
      ((looked : F) × Looks folders disks name true before looked × InspectsThere name output output' looked after end)
      ⊎ ((end ≡ DiskFault) × (output' ≡ output) × (Looks folders disks name false before after ⊎ GaveNone folders before after))

  -- the words behind `inspect`, unless there was no memory to read them
  pub record DoesInspect (output output' : O) (before after : F) (words : List (List ℕ)) (end : HostStatus) : Type 0 where
    pub well_formed : (name : List ℕ) → one_file_in words ≡ Some name
        → InspectsFile name output output' before after end ⊎ ((end ≡ More (Base status.OutOfMemory)) × (after ≡ before) × (output' ≡ output))
    pub malformed : one_file_in words ≡ None → OnMore end (WritesUsage outputs inspect_usage output output') × (after ≡ before)
