-- What lacks a part lacks the whole.
use Rattle.std.proofs.Common.{◌≡◌, ◌⊎◌, inl, inr, refl, sym, ap, ◌∙◌, Bool, true, false, ◌&&◌, Result, Err}
use Rattle.std.proofs.Common.{arith}
use Rattle.std.proofs.lemmas.Bool.Decides.{nat_tests}
use Rattle.ifdb_bound.specs.declared.request.Bound.{Bound}
use Rattle.ifdb_wire.specs.declared.fault.Fault.{Fault}
use Rattle.ifdb_wire.specs.declared.fault.Fault.TheVariants.{OutOfMemory, UnknownName}
use Rattle.ifdb_select.specs.Lacks.{Lacks}

pub lacks_first : (f : Fault) (a b : Bool) → Lacks f a → Lacks f (a && b)
lacks_first f a b h = grind (arith, nat_tests)

pub lacks_second : (f : Fault) (a b : Bool) → Lacks f b → Lacks f (a && b)
lacks_second f true b h = h
lacks_second f false b h = grind (arith)

-- a request that lacks a name is refused for it
pub refused : (f : Fault) (known : Bool) (r : Result Bound Fault) → Lacks f known → (known ≡ false → r ≡ Err UnknownName) → (f ≡ OutOfMemory) ⊎ (r ≡ Err f)
refused f known r (inl h) k = inl h
refused f known r (inr h) k = inr (k h.1 ∙ ap Err (sym h.0))
