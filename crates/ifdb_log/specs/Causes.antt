-- decides: a served database
-- When a log may answer that its disk failed: only where the disk's own count of faults rose in this call.
use Rattle.std.specs.Prelude.{◌≡◌, ℕ, ◌≤◌, Result, Ok, Err}
use Rattle.ifdb_io.specs.Causes.{Rose}
use Rattle.ifdb_log.specs.declared.fault.LogFault.{LogFault}
use Rattle.ifdb_log.specs.declared.fault.LogFault.TheVariants as fault

-- after the disk's fault its count of faults rose, and else it stands as it stood
abbrev pub HasLogCause : {T : Type 0} → ℕ → ℕ → Result T LogFault → Type 0
HasLogCause before now (Ok x) = now ≡ before
HasLogCause before now (Err fault.Disk) = (before ≤ now) × Rose before now
HasLogCause before now (Err fault.NotALog) = now ≡ before
HasLogCause before now (Err (fault.Damaged at)) = now ≡ before
HasLogCause before now (Err fault.OutOfMemory) = now ≡ before
