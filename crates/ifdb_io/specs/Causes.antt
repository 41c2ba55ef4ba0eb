-- decides: bytes and faults
-- When a failure may be answered: only where the object's own count of faults rose in this call.
use Rattle.std.specs.Prelude.{◌≡◌, ℕ, ◌+◌, ◌-◌, ◌^◌, ◌<◌, ◌≤◌, min, List, length, take, Option, Result, OnOk, OnErr}
use Rattle.std.specs.Io.KnownBytes.{Appends}

-- a count of faults rose, or stands at its last value
abbrev pub Rose : ℕ → ℕ → Type 0
Rose before now = min (before + 1) (2 ^ 64 - 1) ≤ now

-- a count of faults hasn't fallen: after an error it rose, and else it stands as it stood
pub record HasCause {T E : Type 0} (before now : ℕ) (result : Result T E) : Type 0 where
  pub later : before ≤ now
  pub failed : OnErr result (Rose before now)
  pub kept : OnOk result (now ≡ before)

-- only the first n of these bytes were written, and not the last
pub record WritesShort (old new : Option (List ℕ)) (bytes : List ℕ) : Type 0 where
  pub n : ℕ
  pub short : n < length bytes
  pub written : Appends old new (take n bytes)
