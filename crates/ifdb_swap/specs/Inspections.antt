-- decides: an inspection
-- What was told of a database of a folder, which was read alone.
use Rattle.std.specs.Prelude.{◌≡◌, ℕ, ◌≤◌, ◌-◌, ◌^◌, List, length, min, Option, Result, Ok, Err, IfOk}
use Rattle.ifdb_io.specs.Causes.{Rose}
use Rattle.ifdb_disk.specs.Clock.{Clock, Now}
use Rattle.ifdb_extract.specs.Texts.{Extracted}
use Rattle.ifdb_folder.specs.declared.named.Named.{Named}
use Rattle.ifdb_log.specs.declared.fault.LogFault.TheVariants as log_fault
use Rattle.ifdb_log.specs.Title.{IsOther}
use Rattle.ifdb_model.specs.Log.{Entry}
use Rattle.ifdb_reopen.specs.Causes.{IsCaused}
use Rattle.ifdb_reopen.specs.Files.{IsTold}
use Rattle.ifdb_swap.specs.Folders.{IsCausedBy, Keeps, OfName}
use Rattle.ifdb_swap.specs.Swapped.{HasLog, HasNoLog, IsExtractFor}
use Rattle.ifdb_swap.specs.declared.inspection.InspectFault.{InspectFault}
use Rattle.ifdb_swap.specs.declared.inspection.InspectFault.TheVariants as fault
use Rattle.ifdb_swap.specs.declared.inspection.Inspection.{Inspection}

-- an extract has so many public changes, and so many rows
abbrev pub Counts : Extracted → Inspection → Type 0
Counts x i = (i.changes ≡ length x.changes) × (i.rows ≡ min (length x.rows) (2 ^ 64 - 1))

-- where a disk tells what it holds, it holds the file of a log that comes to so many of each
abbrev pub ComesTo : Inspection → Option Clock → Type 0
ComesTo i t = IsTold t → (log : List Entry) × (x : Extracted) × HasLog t log × IsExtractFor x log × Counts x i

module _ {D : Type 0} (tells : D → Option Clock) (faults : D → ℕ) (name : List ℕ) (before after : Option (List (Named D))) (count now : ℕ) where
  -- behind a fault of the folder its own count of faults rose, and else it stands as it stood
  abbrev pub HasInspectCause : Result Inspection InspectFault → Type 0
  HasInspectCause (Ok i) = now ≡ count
  HasInspectCause (Err fault.Folder) = (count ≤ now) × Rose count now
  HasInspectCause (Err (fault.Read f)) = (now ≡ count) × IsCausedBy faults name before after (λ m n. IsCaused m n f)

  -- the database of the name was read alone, and this was told of it
  pub record Inspects (result : Result Inspection InspectFault) : Type 0 where
    pub kept : Keeps tells name before after
    pub told : IfOk result (λ i. OfName tells name before (ComesTo i))
    pub damaged : (at : ℕ) → result ≡ Err (fault.Read (log_fault.Damaged at)) → OfName tells name before HasNoLog
    pub other : result ≡ Err (fault.Read log_fault.NotALog) → OfName tells name before (λ t. Now t (λ s. IsOther s.bytes))
    pub cause : HasInspectCause result
    pub later : count ≤ now
