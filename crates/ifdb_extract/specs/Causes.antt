-- When a log may be told not to be written: a disk's fault comes only where the disk's own count of faults rose in this call.
use Rattle.std.specs.Prelude.{◌≡◌, ℕ, ◌≤◌, Result, Ok, Err}
use Rattle.ifdb_io.specs.Causes.{Rose}
use Rattle.ifdb_extract.specs.declared.fault.WriteFault.{WriteFault}
use Rattle.ifdb_extract.specs.declared.fault.WriteFault.TheVariants as fault

-- after the disk's fault its count of faults rose, and else it stands as it stood
abbrev pub HasWriteCause : {T : Type 0} → ℕ → ℕ → Result T WriteFault → Type 0
HasWriteCause before now (Ok x) = now ≡ before
HasWriteCause before now (Err fault.Disk) = (before ≤ now) × Rose before now
HasWriteCause before now (Err fault.OutOfMemory) = now ≡ before
