-- decides: the program
-- What the program does by the words of `keep`.
use Rattle.std.specs.Prelude.{◌≡◌, ◌≢◌, ◌⊎◌, ℕ, List, codes, None, Some}
use Rattle.ifdb_io.specs.Causes.{Rose}
use Rattle.ifdb_io.specs.declared.outside.Source as source
use Rattle.ifdb_io.specs.declared.outside.Sink as sink
use Rattle.ifdb_disk.specs.declared.disk.Disk as disk
use Rattle.ifdb_disk.specs.declared.shelf.Shelf as shelf
use Rattle.ifdb_journal.specs.Reading.{BreaksAt}
use Rattle.ifdb_keep.specs.Kept.{KeptCut, KeptFront, KeptPast, KeptShort, KeptWhole}
use Rattle.ifdb_keep.specs.Resumed.{IsUnbegun, IsUnread}
use Rattle.ifdb_keep.specs.declared.keep.KeepEnd.{KeepEnd}
use Rattle.ifdb_keep.specs.declared.keep.KeepEnd.TheVariants as kept
use Rattle.ifdb_words.specs.Keep.{keep_in}
use Rattle.ifdb_words.specs.declared.keep.Keep.{Keep}
use Rattle.ifdb_top.specs.declared.base.Status.TheVariants as status
use Rattle.ifdb_top.specs.declared.more.MoreStatus.{MoreStatus}
use Rattle.ifdb_top.specs.declared.more.MoreStatus.TheVariants.{Base, DiskFault, Damaged}
use Rattle.ifdb_top.specs.Lending.{Lends, Refuses}
use Rattle.ifdb_top.specs.Usage.{TellsUsage}

abbrev pub keep_usage : List ℕ
keep_usage = codes "usage: ifdb keep --file F [--limit N]\n"

-- the status of an end
abbrev pub status_of : KeepEnd → MoreStatus
status_of kept.Done = Base status.Done
status_of kept.ReadFault = Base status.ReadFault
status_of kept.WriteFault = Base status.WriteFault
status_of kept.OutOfMemory = Base status.OutOfMemory
status_of kept.TooLarge = Base status.TooLarge
status_of kept.DiskFault = DiskFault
status_of (kept.Damaged at) = Damaged at

-- a script was kept, or there was no memory or no whole journal
abbrev pub IsKeepEnd : MoreStatus → Type 0
IsKeepEnd (Base status.Done) = Unit {0}
IsKeepEnd (Base status.ReadFault) = Unit {0}
IsKeepEnd (Base status.WriteFault) = Unit {0}
IsKeepEnd (Base status.OutOfMemory) = Unit {0}
IsKeepEnd (Base status.TooLarge) = Unit {0}
IsKeepEnd DiskFault = Unit {0}
IsKeepEnd (Damaged at) = Unit {0}
IsKeepEnd _ = ⊥

-- the same where nothing had a fault and the script keeps to its limit
abbrev pub IsKeptOrLacking : MoreStatus → Type 0
IsKeptOrLacking (Base status.Done) = Unit {0}
IsKeptOrLacking (Base status.OutOfMemory) = Unit {0}
IsKeptOrLacking (Damaged at) = Unit {0}
IsKeptOrLacking _ = ⊥

module _ {I O S D : Type 0} (inputs : source.Ghosts I) (outputs : sink.Ghosts O) (shelves : shelf.Ghosts S D) (disks : disk.Ghosts D) where
  -- the script at the input was run over the journal in a file
  pub record KeepsScript (k : Keep) (input input' : I) (output output' : O) (before after : S) (end : MoreStatus) : Type 0 where
    -- ---- the script's output, and what the disk holds
    pub done : end ≡ Base status.Done → Lends shelves k.file before after (λ disk disk'. KeptWhole k.limit
        (inputs.left input) (inputs.left input') (outputs.written output) (outputs.written output') (disks.tells disk) (disks.tells disk'))
    -- ---- faults, and what was written and kept before them
    pub read : end ≡ Base status.ReadFault → Rose (inputs.faults input) (inputs.faults input')
    pub read_front : end ≡ Base status.ReadFault → Lends shelves k.file before after (λ disk disk'. KeptFront k.limit
        (inputs.left input) (inputs.left input') (outputs.written output) (outputs.written output') (disks.tells disk) (disks.tells disk'))
    pub write : end ≡ Base status.WriteFault → Rose (outputs.faults output) (outputs.faults output')
    pub write_front : end ≡ Base status.WriteFault → Lends shelves k.file before after (λ disk disk'. KeptCut k.limit
        (inputs.left input) (inputs.left input') (outputs.written output) (outputs.written output') (disks.tells disk) (disks.tells disk'))
    pub too_large : end ≡ Base status.TooLarge → Lends shelves k.file before after (λ disk disk'. KeptPast k.limit
        (inputs.left input) (inputs.left input') (outputs.written output) (outputs.written output') (disks.tells disk) (disks.tells disk'))
    -- ---- a fault of the shelf, or of its disk, before the first read or at a step that has a record
    pub disk : end ≡ DiskFault → ((input' ≡ input) × (output' ≡ output) × Refuses {D = D} shelves k.file before after)
        ⊎ Lends shelves k.file before after (λ disk disk'. Rose (disks.faults disk) (disks.faults disk')
        × (((input' ≡ input) × (output' ≡ output) × IsUnbegun (disks.tells disk) (disks.tells disk'))
        ⊎ KeptShort k.limit
        (inputs.left input) (inputs.left input') (outputs.written output) (outputs.written output') (disks.tells disk) (disks.tells disk')))
    -- ---- ends before the first read
    pub damaged : (at : ℕ) → end ≡ Damaged at → (input' ≡ input) × (output' ≡ output)
        × Lends shelves k.file before after (λ disk disk'. BreaksAt (disks.tells disk) at × IsUnread (disks.tells disk) (disks.tells disk'))
    pub memory : end ≡ Base status.OutOfMemory → (input' ≡ input) × (output' ≡ output)
        × ((after ≡ before) ⊎ Lends shelves k.file before after (λ disk disk'. IsUnread (disks.tells disk) (disks.tells disk')))
    -- ---- what is so at every end
    pub unfailed : end ≢ Base status.ReadFault → inputs.faults input' ≡ inputs.faults input
    pub ends : IsKeepEnd end
    pub complete : ¬ Rose (inputs.faults input) (inputs.faults input') → ¬ Rose (outputs.faults output) (outputs.faults output')
        → end ≢ Base status.TooLarge → end ≢ DiskFault → IsKeptOrLacking end

  -- the words behind `keep`
  pub record DoesKeep (words : List (List ℕ)) (input input' : I) (output output' : O) (before after : S) (end : MoreStatus) : Type 0 where
    pub well_formed : (k : Keep) → keep_in words ≡ Some k → KeepsScript k input input' output output' before after end
    pub malformed : keep_in words ≡ None → TellsUsage outputs keep_usage input input' output output' end × (after ≡ before)
