-- decides: disks
-- What the sources and sinks in memory show, and what their calls do to it.
use Rattle.std.specs.Prelude.{ℕ, ◌+◌, ◌-◌, ◌^◌, min, List, ◌++◌, length, take, drop, Bool, true, false, ◌==◌, nat_lt, if◌then◌else◌}
use Rattle.std.specs.List.{list_any}

-- what a source that never fails shows
pub record SureFeed : Type 0 where
  -- the bytes that it hasn't given yet
  pub left : List ℕ
  -- the most bytes that it gives at a call
  pub piece : ℕ

-- what a source shows that fails at some of its calls
pub record Feed : Type 0 where
  -- the bytes that it hasn't given yet
  pub left : List ℕ
  -- the most bytes that it gives at a call
  pub piece : ℕ
  -- the numbers, from 0, of the calls that fail
  pub fails : List ℕ
  -- how many calls were made, up to 2^64 - 1
  pub calls : ℕ
  -- how many calls failed, up to 2^64 - 1
  pub faults : ℕ

-- what a sink shows that fails only at a full room
pub record SureStore : Type 0 where
  -- the bytes that it took
  pub written : List ℕ
  -- the most bytes that it takes in all
  pub room : ℕ
  -- the most bytes that it takes at a call
  pub piece : ℕ
  -- how many calls failed, up to 2^64 - 1
  pub faults : ℕ

-- what a sink shows that fails at a full room, and at some of its calls
pub record Store : Type 0 where
  -- the bytes that it took
  pub written : List ℕ
  -- the most bytes that it takes in all
  pub room : ℕ
  -- the most bytes that it takes at a call
  pub piece : ℕ
  -- the numbers, from 0, of the calls that fail
  pub fails : List ℕ
  -- how many calls were made, up to 2^64 - 1
  pub calls : ℕ
  -- how many calls failed, up to 2^64 - 1
  pub faults : ℕ

-- one more, up to the last value of a counter
abbrev pub counted : ℕ → ℕ
counted n = min (n + 1) (2 ^ 64 - 1)

-- whether the call of this number is to fail
abbrev pub is_listed : List ℕ → ℕ → Bool
is_listed fails call = list_any (λ n. n == call) fails

-- how many of so many bytes go through at a call
abbrev pub portion : ℕ → ℕ → ℕ → ℕ
portion available piece room = min (min available piece) room

-- how often a sure sink has failed: never while its room isn't full
abbrev pub sure_faults : SureStore → ℕ
sure_faults store = if nat_lt (length store.written) store.room then 0 else store.faults

-- a source after a read with this much room
abbrev pub feed_after : Feed → ℕ → Feed
feed_after feed room =
    if is_listed feed.fails feed.calls
    then record feed { calls = counted feed.calls; faults = counted feed.faults }
    else record feed { calls = counted feed.calls; left = drop (portion (length feed.left) feed.piece room) feed.left }

-- whether a sink with these bytes and this room has none for a piece
abbrev pub is_full : List ℕ → ℕ → List ℕ → Bool
is_full written room bytes = if length bytes == 0 then false else length written == room

-- how many bytes of a piece a sink with these bytes and this room takes
abbrev pub taken_of : List ℕ → ℕ → ℕ → List ℕ → ℕ
taken_of written room piece bytes = portion (room - length written) piece (length bytes)

-- a sure sink after a write of these bytes
abbrev pub sure_store_after : SureStore → List ℕ → SureStore
sure_store_after store bytes =
    if is_full store.written store.room bytes
    then record store { faults = counted store.faults }
    else record store { written = store.written ++ take (taken_of store.written store.room store.piece bytes) bytes }

-- whether a sink fails at a write of these bytes
abbrev pub fails_at : Store → List ℕ → Bool
fails_at store bytes = if is_listed store.fails store.calls then true else is_full store.written store.room bytes

-- a sink after a write of these bytes
abbrev pub store_after : Store → List ℕ → Store
store_after store bytes =
    if fails_at store bytes
    then record store { calls = counted store.calls; faults = counted store.faults }
    else record store { calls = counted store.calls; written = store.written ++ take (taken_of store.written store.room store.piece bytes) bytes }
