-- decides: disks
-- What a shelf of disks shows, and what its calls do to it.
use Rattle.std.specs.Prelude.{◌≡◌, ℕ, List, Option, Some, None, Result, Ok, Err, ⊤}
use Rattle.ifdb_io.specs.Memory.{counted}
use Rattle.ifdb_io.specs.declared.outside.Failed.{Failed}

-- a shelf, where it tells
pub record Row (D : Type 0) : Type 0 where
  -- the disk that the next call of `open` gives, if it doesn't fail
  pub next : Option D
  -- how often `open` was called, up to 2^64 - 1
  pub opens : ℕ
  -- the name that its last call was given
  pub name : List ℕ
  -- the disk that the last call of `close` took
  pub back : Option D

-- a call of `open`
abbrev pub Opens : {D : Type 0} → List ℕ → Option (Row D) → Option (Row D) → Result D Failed → Type 0
Opens name None new result = ⊤
Opens name (Some r) new (Ok d) = (r.next ≡ Some d) × (new ≡ Some (record r { next = None; opens = counted r.opens; name = name }))
Opens name (Some r) new (Err f) = new ≡ Some (record r { opens = counted r.opens; name = name })

-- a call of `close`
abbrev pub Closes : {D : Type 0} → D → Option (Row D) → Option (Row D) → Type 0
Closes disk None new = ⊤
Closes disk (Some r) new = new ≡ Some (record r { back = Some disk })
