-- decides: disks
-- What a disk shows over time: its states, each of which a call brought, and what crashes may have left at each of them.
use Rattle.std.specs.Prelude.{◌≡◌, ◌⊎◌, ℕ, ◌+◌, ◌≤◌, max, List, ◌∷◌, ◌++◌, length, take, drop, Option, Some, None, ⊤}
use Rattle.std.specs.List.{AllByRecursion}
use Rattle.ifdb_disk.specs.Images.{Shown, IsImage, settled, written}

-- a disk now, and at each moment before, the last one first
pub record Clock : Type 0 where
  pub now : Shown
  pub before : List Shown

-- the clock goes on to a moment
abbrev pub ticked : Clock → Shown → Clock
ticked c s = record { now = s; before = c.now ∷ c.before }

-- a call takes the disk to its next moment, where it is told
abbrev pub goes : (Shown → Shown) → Option Clock → Option Clock
goes f None = None
goes f (Some c) = Some (ticked c (f c.now))

-- a write that failed: nothing was written, or any bytes in the range
abbrev pub MayHaveWritten : ℕ → ℕ → Option Clock → Option Clock → Type 0
MayHaveWritten at n old new = (new ≡ old) ⊎ ((any : List ℕ) × (length any ≤ n) × (new ≡ goes (written at any) old))

-- what a disk shows now, where it is told
abbrev pub Now : Option Clock → (Shown → Type 0) → Type 0
Now None P = ⊤
Now (Some c) P = P c.now

-- each moment since then
abbrev pub Since : Option Clock → Option Clock → (Shown → Type 0) → Type 0
Since None new P = ⊤
Since (Some old) None P = ⊥
Since (Some old) (Some new) P = (states : List Shown) × (new.now ∷ new.before ≡ states ++ (old.now ∷ old.before)) × AllByRecursion P states

-- a crash at any moment since then leaves only what has P
abbrev pub Leaves : Option Clock → Option Clock → (List ℕ → Type 0) → Type 0
Leaves old new P = Since old new (λ s. (image : List ℕ) → IsImage s image → P image)

-- the disk holds these bytes, all of them synced, where it is told
abbrev pub Stored : Option Clock → List ℕ → Type 0
Stored None bytes = ⊤
Stored (Some c) bytes = c.now ≡ settled bytes

-- a content after a write of n bytes that was cut short: any bytes in the range and past the old end, the same elsewhere
pub record Torn (old : List ℕ) (at n : ℕ) (image : List ℕ) : Type 0 where
  pub no_shorter : length old ≤ length image
  pub no_longer : length image ≤ max (length old) (at + n)
  pub before : take at image ≡ take at old
  pub after : drop (at + n) image ≡ drop (at + n) old
