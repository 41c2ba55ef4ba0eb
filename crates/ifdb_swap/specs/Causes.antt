-- decides: a compaction
-- When the writing of a new file may answer that its disk failed: only where the disk's own count of faults rose in this call.
use Rattle.std.specs.Prelude.{◌≡◌, ℕ, ◌≤◌, Result, Ok, Err}
use Rattle.ifdb_io.specs.Causes.{Rose}
use Rattle.ifdb_swap.specs.declared.fault.SpareFault.{SpareFault}
use Rattle.ifdb_swap.specs.declared.fault.SpareFault.TheVariants as fault

-- the fault came so: after the disk's its count of faults rose, and else it stands as it stood
abbrev pub IsSpareCaused : ℕ → ℕ → SpareFault → Type 0
IsSpareCaused before now fault.Disk = (before ≤ now) × Rose before now
IsSpareCaused before now fault.NotALog = now ≡ before
IsSpareCaused before now fault.OutOfMemory = now ≡ before

-- and where there is none it stands as it stood
abbrev pub HasSpareCause : {T : Type 0} → ℕ → ℕ → Result T SpareFault → Type 0
HasSpareCause before now (Ok x) = now ≡ before
HasSpareCause before now (Err f) = IsSpareCaused before now f
