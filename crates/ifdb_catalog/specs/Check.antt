-- decides: names and refusals
-- Refusals in their order: a request is refused by the first of its checks that fails.
use Rattle.std.specs.Prelude.{Bool, List, [], ◌∷◌, Result, Ok, Err, if◌then◌else◌}
use Rattle.ifdb_bound.specs.declared.request.Bound.{Bound}
use Rattle.ifdb_wire.specs.declared.fault.Fault.{Fault}

-- a refusal, and whether it comes
pub record Check : Type 0 where
  pub fault : Fault
  pub comes : Bool

infixl 5 ◌when◌
-- a refusal that comes in this case
abbrev pub ◌when◌ : Fault → Bool → Check
fault when comes = record { fault = fault; comes = comes }

-- the first refusal that comes, or else the bound request
unfoldable pub judged : List Check → Bound → Result Bound Fault
judged [] bound = Ok bound
judged (check ∷ checks) bound = if check.comes then Err check.fault else judged checks bound
