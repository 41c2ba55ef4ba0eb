-- decides: disks
-- What a disk shows at one moment, and what a crash may leave of it then.
use Rattle.std.specs.Prelude.{◌≡◌, ℕ, ◌+◌, ◌<◌, ◌≤◌, Bool, false, ◌&&◌, ◌||◌, nat_lt, nat_le, List, [], ◌∷◌, ◌++◌, length, take, drop, get_or, if◌then◌else◌}

-- a range of places
pub record Range : Type 0 where
  pub at : ℕ
  pub len : ℕ

-- a disk at one moment
pub record Shown : Type 0 where
  -- what a read gives
  pub bytes : List ℕ
  -- what it was at the last sync
  pub synced : List ℕ
  -- the ranges that were written since, the last one first
  pub loose : List Range

-- a place is in one of the ranges
abbrev pub is_loose : List Range → ℕ → Bool
is_loose [] i = false
is_loose (r ∷ ranges) i = (nat_le r.at i && nat_lt i (r.at + r.len)) || is_loose ranges i

-- An image, which a crash may leave: any bytes where something was written since the last sync, and else those of the sync.
-- Its length is any from that at the sync to the present one.
pub record IsImage (s : Shown) (image : List ℕ) : Type 0 where
  pub no_shorter : length s.synced ≤ length image
  pub no_longer : length image ≤ length s.bytes
  pub rest : (i : ℕ) → i < length image → is_loose s.loose i ≡ false → get_or image i 0 ≡ get_or s.synced i 0

-- these bytes, all of them synced
abbrev pub settled : List ℕ → Shown
settled bytes = record { bytes = bytes; synced = bytes; loose = [] }

-- some bytes with others in the place of theirs from `at` on
abbrev pub overwritten : List ℕ → ℕ → List ℕ → List ℕ
overwritten old at bytes = take at old ++ (bytes ++ drop (at + length bytes) old)

-- after a write of these bytes
abbrev pub written : ℕ → List ℕ → Shown → Shown
written at bytes s = record {
  bytes = overwritten s.bytes at bytes;
  synced = s.synced;
  loose = record { at = length (take at s.bytes); len = length bytes } ∷ s.loose;
}

-- after a sync
abbrev pub synced : Shown → Shown
synced s = settled s.bytes

-- some bytes, the first of which has the place i, where those in the ranges are replaced by one
abbrev pub filled_from : ℕ → List Range → ℕ → List ℕ → List ℕ
filled_from i loose fill [] = []
filled_from i loose fill (b ∷ bytes) = (if is_loose loose i then fill else b) ∷ filled_from (i + 1) loose fill bytes

-- the image of the present length in which every byte that was written since the last sync is this one
abbrev pub filled : ℕ → Shown → List ℕ
filled fill s = filled_from 0 s.loose fill s.bytes

-- what was read from `at` on into the front of a buffer: at least one byte, where there is one and there is room
pub record Reads (at n : ℕ) (buffer : List ℕ) (s : Shown) : Type 0 where
  pub bytes : take n buffer ≡ take n (drop at s.bytes)
  pub within : n ≤ length (drop at s.bytes)
  pub some : 0 < length buffer → at < length s.bytes → 0 < n
