-- decides: the service
-- Ends of connections that count as faults.
use Rattle.std.specs.Prelude.{ℕ, ◌-◌, ◌^◌, min, Bool, true, false, if◌then◌else◌}
use Rattle.ifdb_session.specs.declared.ending.Ending.{Ending}
use Rattle.ifdb_session.specs.declared.ending.Ending.TheVariants as ends

-- by BYE, or at the end of the input
abbrev pub is_orderly : Ending → Bool
is_orderly ends.Bye = true
is_orderly ends.End = true
is_orderly _ = false

-- 1 for any other end
abbrev pub fault_of : Ending → ℕ
fault_of ending = if is_orderly ending then 0 else 1

-- a count that stops at its last value
abbrev pub capped : ℕ → ℕ
capped n = min n (2 ^ 64 - 1)
