-- Refusals that are the definition's, or want of memory.
use Rattle.std.specs.Prelude.{◌≡◌, ◌⊎◌, IfErr, Option, Some, Result, Err}
use Rattle.ifdb_wire.specs.declared.fault.Fault.{Fault}
use Rattle.ifdb_wire.specs.declared.fault.Fault.TheVariants.{OutOfMemory}

-- where a call is refused, this outcome is that refusal; want of memory may come instead
abbrev pub RefusedAs : {A B : Type 0} → Result A Fault → Result B Fault → Type 0
RefusedAs outcome result = IfErr result (λ fault. (fault ≡ OutOfMemory) ⊎ (outcome ≡ Err fault))

-- where a call is refused, this is the reason; want of memory may come instead
abbrev pub RefusedFor : {B : Type 0} → Option Fault → Result B Fault → Type 0
RefusedFor reason result = IfErr result (λ fault. (fault ≡ OutOfMemory) ⊎ (reason ≡ Some fault))
