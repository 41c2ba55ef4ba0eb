-- decides: a served database
-- When a database may answer that its disk failed.
use Rattle.std.specs.Prelude.{ℕ, Err}
use Rattle.ifdb_log.specs.Causes.{HasLogCause}
use Rattle.ifdb_log.specs.declared.fault.LogFault.{LogFault}

-- the fault came so: a disk's, only where its count of faults rose in this call
abbrev pub IsCaused : ℕ → ℕ → LogFault → Type 0
IsCaused before now fault = HasLogCause {T = Unit {0}} before now (Err fault)
