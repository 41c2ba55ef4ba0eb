-- When a journal may answer that its disk failed: only where the disk's own count of faults rose in this call.
use Rattle.std.specs.Prelude.{◌≡◌, ℕ, ◌≤◌, Result, Ok, Err}
use Rattle.ifdb_io.specs.Causes.{Rose}
use Rattle.ifdb_journal.specs.declared.record.JournalFault.{JournalFault}
use Rattle.ifdb_journal.specs.declared.record.JournalFault.TheVariants as fault

-- after the disk's fault its count of faults rose, and else it stands as it stood
abbrev pub HasDiskCause : {T : Type 0} → ℕ → ℕ → Result T JournalFault → Type 0
HasDiskCause before now (Ok x) = now ≡ before
HasDiskCause before now (Err fault.Disk) = (before ≤ now) × Rose before now
HasDiskCause before now (Err (fault.Damaged at)) = now ≡ before
HasDiskCause before now (Err fault.OutOfMemory) = now ≡ before
