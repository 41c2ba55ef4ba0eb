-- What a disk and a shelf in memory show, and what their calls do to it.
use Rattle.std.specs.Prelude.{ℕ, ◌+◌, ◌-◌, ◌≤◌, Bool, true, false, not, ◌||◌, ◌&&◌, nat_lt, nat_le, List, [], ◌∷◌, ◌++◌, length, take, drop, is_none, ⊤, if◌then◌else◌}
use Rattle.ifdb_io.specs.Memory.{counted, is_listed}
use Rattle.ifdb_disk.specs.Images.{Range, settled, written, synced}
use Rattle.ifdb_disk.specs.Clock.{Clock, ticked}
use Rattle.ifdb_disk.specs.Shelf.{Row}
use Rattle.ifdb_disk.specs.declared.track.Done.{Done}
use Rattle.ifdb_disk.specs.declared.track.Done.TheVariants as done

-- a call that wrote these bytes from a place on, or one that synced
pub data Call : Type 0 where
  writes : ℕ → List ℕ → Call
  syncs : Call

-- a disk with these bytes, all of them synced, before its first moment
abbrev pub begun : List ℕ → Clock
begun bytes = record { now = settled bytes; before = [] }

-- the clock after a call
abbrev pub after_call : Clock → Call → Clock
after_call c (writes at bytes) = ticked c (written at bytes c.now)
after_call c syncs = ticked c (synced c.now)

-- the clock after some calls
abbrev pub played : Clock → List Call → Clock
played c [] = c
played c (call ∷ calls) = played (after_call c call) calls

-- ---- the bytes of a disk in memory, and what became of them

-- what was done to a disk's bytes
pub record Past : Type 0 where
  -- what they were at first
  pub first : List ℕ
  -- the calls since, the first one first
  pub calls : List Call
  -- how many bytes more can be written
  pub room : ℕ
  -- how many calls more there can be
  pub more : ℕ

-- what they come to
abbrev pub past_clock : Past → Clock
past_clock p = played (begun p.first) p.calls

-- the calls, where the bytes that they wrote stand one behind the other
abbrev pub calls_of : List Done → List ℕ → List Call
calls_of [] bytes = []
calls_of (done.Write at len ∷ all) bytes = writes at (take len bytes) ∷ calls_of all (drop len bytes)
calls_of (done.Sync ∷ all) bytes = syncs ∷ calls_of all bytes

-- how many bytes the calls wrote
abbrev pub total : List Done → ℕ
total [] = 0
total (done.Write at len ∷ all) = len + total all
total (done.Sync ∷ all) = total all

-- the ranges that the calls wrote, the last one first
abbrev pub ranges_of : List Done → List Range
ranges_of [] = []
ranges_of (done.Write at len ∷ all) = ranges_of all ++ record { at = at; len = len } ∷ []
ranges_of (done.Sync ∷ all) = ranges_of all

-- a call wrote only below this length
abbrev pub IsBelow : ℕ → Done → Type 0
IsBelow length (done.Write at len) = at + len ≤ length
IsBelow length done.Sync = ⊤

-- ---- a disk in memory

-- what it shows
pub record DiskState : Type 0 where
  -- what it held at first
  pub first : List ℕ
  -- the calls since that wrote or synced, the first one first
  pub calls : List Call
  -- how many bytes more it takes
  pub room : ℕ
  -- how many writes and syncs it allows in all
  pub most : ℕ
  -- how many were made, up to 2^64 - 1
  pub count : ℕ
  -- the numbers, from 0, of those that fail
  pub fails : List ℕ
  -- how many calls failed, up to 2^64 - 1
  pub faults : ℕ

-- what it tells
abbrev pub clock_of : DiskState → Clock
clock_of d = played (begun d.first) d.calls

-- the next call is one that it allows, with so many bytes
abbrev pub allows : DiskState → ℕ → Bool
allows d n = nat_lt d.count d.most && nat_le n d.room

-- the next call was told to fail
abbrev pub is_told : DiskState → Bool
is_told d = is_listed d.fails d.count

-- after a call that failed, or not
abbrev pub called : Bool → DiskState → DiskState
called failed d = record d { count = counted d.count; faults = if failed then counted d.faults else d.faults }

-- whether a write of so many bytes fails
abbrev pub write_fails : DiskState → ℕ → Bool
write_fails d n = not (allows d n) || is_told d

-- after a write: one that was told to fail writes, and one that isn't allowed doesn't
abbrev pub after_write : DiskState → ℕ → List ℕ → DiskState
after_write d at bytes =
    if allows d (length bytes) then called (is_told d) (record d { calls = d.calls ++ writes at bytes ∷ []; room = d.room - length bytes }) else called true d

-- whether a sync fails
abbrev pub sync_fails : DiskState → Bool
sync_fails d = not (allows d 0) || is_told d

-- after a sync
abbrev pub after_sync : DiskState → DiskState
after_sync d = if sync_fails d then called true d else called false (record d { calls = d.calls ++ syncs ∷ [] })

-- ---- a shelf in memory

-- what it shows
pub record ShelfState : Type 0 where
  pub row : Row DiskState
  -- the numbers, from 0, of the calls of `open` that fail
  pub fails : List ℕ
  -- how many calls failed, up to 2^64 - 1
  pub faults : ℕ

-- whether the next call of `open` fails
abbrev pub open_fails : ShelfState → Bool
open_fails s = is_listed s.fails s.row.opens || is_none s.row.next
