-- Why a part of a request has no tree.
use Rattle.std.specs.Prelude.{◌≡◌, ◌⊎◌, Bool, false, IfErr, Result}
use Rattle.ifdb_wire.specs.declared.fault.Fault.{Fault}
use Rattle.ifdb_wire.specs.declared.fault.Fault.TheVariants.{OutOfMemory, UnknownName}

-- memory lacks, or it isn't so that all its names are known
abbrev pub Lacks : Fault → Bool → Type 0
Lacks fault known = (fault ≡ OutOfMemory) ⊎ ((fault ≡ UnknownName) × (known ≡ false))

-- where a call is refused, memory lacks, or it isn't so that all names are known
abbrev pub RefusedUnless : {A : Type 0} → Bool → Result A Fault → Type 0
RefusedUnless known result = IfErr result (λ fault. Lacks fault known)
