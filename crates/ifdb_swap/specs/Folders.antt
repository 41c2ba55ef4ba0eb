-- decides: a compaction
-- A database of a folder that was compacted in its place.
use Rattle.std.specs.Prelude.{◌≡◌, ◌⊎◌, ℕ, ◌≤◌, Bool, true, false, List, Option, Some, None, Result, Ok, Err, ⊤}
use Rattle.ifdb_io.specs.Causes.{Rose}
use Rattle.ifdb_disk.specs.Clock.{Clock, Now}
use Rattle.ifdb_folder.specs.declared.named.Named.{Named}
use Rattle.ifdb_folder.specs.Folders.{disk_of}
use Rattle.ifdb_log.specs.declared.fault.LogFault.TheVariants as log_fault
use Rattle.ifdb_log.specs.Title.{IsOther}
use Rattle.ifdb_reopen.specs.Causes.{IsCaused}
use Rattle.ifdb_reopen.specs.Files.{IsTold, IsUnopened}
use Rattle.ifdb_swap.specs.Causes.{IsSpareCaused}
use Rattle.ifdb_swap.specs.Swapped.{HasNoLog, IsKept, IsOtherOn, IsSwapped, IsUnneeded, IsWorth}
use Rattle.ifdb_swap.specs.declared.fault.CompactFault.{CompactFault}
use Rattle.ifdb_swap.specs.declared.fault.CompactFault.TheVariants as fault
use Rattle.ifdb_swap.specs.declared.fault.SpareFault.TheVariants as spare_fault
use Rattle.ifdb_swap.specs.declared.when.When.{When}
use Rattle.ifdb_swap.specs.declared.when.When.TheVariants as when

module _ {D : Type 0} where
  -- the folder tells that the name has this disk
  abbrev pub HasDisk : List ℕ → Option (List (Named D)) → D → Type 0
  HasDisk name None disk = ⊥
  HasDisk name (Some disks) disk = disk_of name disks ≡ Some disk

  -- the name has this disk, where the folder tells it
  abbrev pub MayHave : List ℕ → Option (List (Named D)) → D → Type 0
  MayHave name None disk = ⊤
  MayHave name (Some disks) disk = disk_of name disks ≡ Some disk

  module _ (tells : D → Option Clock) where
    -- this is so of what the disk of a name tells, where the folder tells which it is
    abbrev pub OfName : List ℕ → Option (List (Named D)) → (Option Clock → Type 0) → Type 0
    OfName name folder P = (disk : D) → HasDisk name folder disk → P (tells disk)

    -- the name has the disk that it had, which was read alone
    abbrev pub Keeps : List ℕ → Option (List (Named D)) → Option (List (Named D)) → Type 0
    Keeps name before after = (disk : D) → HasDisk name before disk → (now : D) × HasDisk name after now × IsKept (tells disk) (tells now)

    -- Where the disks of both names tell what they hold, the name has the file of the log, compacted, that it had the file of.
    abbrev pub Swaps : List ℕ → List ℕ → Option (List (Named D)) → Option (List (Named D)) → Type 0
    Swaps name spare before after = (disk : D) → HasDisk name before disk → IsTold (tells disk) → OfName spare before IsTold
        → (old : D) × (now : D) × HasDisk name after now × IsSwapped (tells disk) (tells old) (tells now)

    -- the one or the other, and never neither
    abbrev pub KeepsOrSwaps : List ℕ → List ℕ → Option (List (Named D)) → Option (List (Named D)) → Type 0
    KeepsOrSwaps name spare before after = Keeps name before after ⊎ Swaps name spare before after

    -- what became of the database
    abbrev pub Ends : List ℕ → List ℕ → Option (List (Named D)) → Option (List (Named D)) → Result Bool CompactFault → Type 0
    Ends name spare before after (Ok true) = Swaps name spare before after
    Ends name spare before after (Ok false) = Keeps name before after
    Ends name spare before after (Err fault.Folder) = KeepsOrSwaps name spare before after
    Ends name spare before after (Err (fault.Read f)) = Keeps name before after
    Ends name spare before after (Err (fault.Write f)) = Keeps name before after

    -- where a name has the disk of a file that is neither new nor a log, it has it still, and nothing was written to it
    abbrev pub SparesOthers : List ℕ → Option (List (Named D)) → Option (List (Named D)) → Type 0
    SparesOthers name before after = (disk : D) → HasDisk name before disk → IsOtherOn (tells disk) → (now : D) × HasDisk name after now × IsUnopened (tells disk) (tells now)

  module _ (faults : D → ℕ) where
    -- a disk's fault came so, where the disk is the one that the name had, with its count of faults before and behind it
    abbrev pub IsCausedBy : List ℕ → Option (List (Named D)) → Option (List (Named D)) → (ℕ → ℕ → Type 0) → Type 0
    IsCausedBy name before after Caused = (disk : D) × (now : D) × MayHave name before disk × MayHave name after now × Caused (faults disk) (faults now)

    -- behind a fault of the folder its own count of faults rose, and else it stands as it stood
    abbrev pub HasSwapCause : List ℕ → List ℕ → Option (List (Named D)) → Option (List (Named D)) → ℕ → ℕ → Result Bool CompactFault → Type 0
    HasSwapCause name spare before after count now (Ok done) = now ≡ count
    HasSwapCause name spare before after count now (Err fault.Folder) = (count ≤ now) × Rose count now
    HasSwapCause name spare before after count now (Err (fault.Read f)) = (now ≡ count) × IsCausedBy name before after (λ m n. IsCaused m n f)
    HasSwapCause name spare before after count now (Err (fault.Write f)) = (now ≡ count) × IsCausedBy spare before after (λ m n. IsSpareCaused m n f)

  -- how a compaction ended
  module _ (tells : D → Option Clock) (faults : D → ℕ) (wish : When) (name spare : List ℕ) (before after : Option (List (Named D))) (count now : ℕ) where
    pub record Compacts (result : Result Bool CompactFault) : Type 0 where
      pub database : Ends tells name spare before after result
      -- it was compacted for being worth it only where it is, and it stayed only where it isn't
      pub needed : result ≡ Ok true → wish ≡ when.IfWorth → OfName tells name before (IsWorth true)
      pub asked : result ≡ Ok false → wish ≡ when.IfWorth
      pub unneeded : result ≡ Ok false → OfName tells name before IsUnneeded
      -- a database is refused only where the name has none
      pub damaged : (at : ℕ) → result ≡ Err (fault.Read (log_fault.Damaged at)) → OfName tells name before HasNoLog
      pub other : result ≡ Err (fault.Read log_fault.NotALog) → OfName tells name before (λ t. Now t (λ s. IsOther s.bytes))
      -- and the spare name only where another file has it, which stays
      pub taken : result ≡ Err (fault.Write spare_fault.NotALog) → OfName tells spare before (λ t. Now t (λ s. IsOther s.bytes))
      pub others : SparesOthers tells spare before after
      pub cause : HasSwapCause faults name spare before after count now result
      pub later : count ≤ now
