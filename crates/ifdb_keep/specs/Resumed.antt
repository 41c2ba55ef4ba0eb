-- decides: the journal
-- How a call goes on from the records of a journal.
use Rattle.std.specs.Prelude.{◌≡◌, ◌⊎◌, ℕ, Bool, List, [], ◌∷◌, ◌++◌, length, take, Option, if◌then◌else◌}
use Rattle.ifdb_disk.specs.Images.{IsImage}
use Rattle.ifdb_disk.specs.Clock.{Clock, Leaves, Now}
use Rattle.ifdb_journal.specs.Records.{ReadsAs}
use Rattle.ifdb_journal.specs.Reading.{Holds, IsOldOrShort, SpellsWhole}
use Rattle.ifdb_journal.specs.declared.record.Record.{Record}
use Rattle.ifdb_journal.specs.declared.record.RecordKind.TheVariants as kind
use Rattle.ifdb_model.specs.Run.{State, opening, run}
use Rattle.ifdb_replay.specs.Replay.{steps_of, replayed}
use Rattle.ifdb_db.specs.Reading.{read_line}
use Rattle.ifdb_db.specs.Room.{Hall, StandsFor}

-- the record of a restart
abbrev pub restarted : Record
restarted = record { kind = kind.Restart; session = 0; line = [] }

-- behind records there is a restart
abbrev pub restart_of : List Record → List Record
restart_of [] = []
restart_of (r ∷ rs) = restarted ∷ []

-- the records that a script's own stand behind: those of the journal, and a restart, if there are any
abbrev pub front_of : List Record → List Record
front_of rs = rs ++ restart_of rs

-- the state that a script begins at
abbrev pub begun : List Record → State
begun rs = replayed read_line opening (front_of rs)

-- the number of sessions that were opened before the script
abbrev pub base_of : List Record → ℕ
base_of rs = length (begun rs).sessions

-- each image reads whole, as these records
abbrev pub AllHave : List Record → Option Clock → Type 0
AllHave rs t = Now t (λ s. (image : List ℕ) → IsImage s image → ReadsAs rs image)

-- an image reads whole, as the records of the journal, or as these, a restart, if there were any, and the first of some others
abbrev pub HasBegun : List Record → List Record → List ℕ → Type 0
HasBegun rs more image = ReadsAs rs image ⊎ ((n : ℕ) × ReadsAs (front_of rs ++ take n more) image)

-- The journal was read to its end: it had these records, and wasn't damaged. Until then each image was one of those at the start or,
-- where the disk was so too, too short for a record; from then on each reads whole, as these records, and may have others behind them.
pub record Journaled (rs more : List Record) (old new : Option Clock) : Type 0 where
  pub spelled : SpellsWhole old rs
  pub mid : Option Clock
  pub start : Leaves old mid (IsOldOrShort old)
  pub read : AllHave rs mid
  pub since : Leaves mid new (HasBegun rs more)

-- the room does a record's steps again, whatever state it stood for
abbrev pub Redoes : Hall → Hall → Record → Type 0
Redoes old new r = (st : State) → StandsFor old st → StandsFor new (run read_line st (steps_of st r))

-- a journal was read to its end, and the steps of its records were done again in a room; `any` tells whether there were some
pub record ReadBack (t : Option Clock) (room : Hall) (at : ℕ) (any : Bool) : Type 0 where
  pub records : List Record
  pub holds : Holds t records at
  pub spelled : SpellsWhole t records
  pub stands : StandsFor room (replayed read_line opening records)
  pub some : restart_of records ≡ (if any then restarted ∷ [] else [])

-- it was read, a restart added, if there was a record, and the room stands where a script begins
pub record Began (old new : Option Clock) (room : Hall) (at : ℕ) : Type 0 where
  pub before : List Record
  pub journal : Journaled before [] old new
  pub holds : Holds new (front_of before) at
  pub stands : StandsFor room (begun before)

-- The journal was not read to its end: each image is one of those at the start or, where the disk was so too, too short for a record.
abbrev pub IsUnread : Option Clock → Option Clock → Type 0
IsUnread old new = Leaves old new (IsOldOrShort old)

-- It was not, or the restart's record was not added.
abbrev pub IsUnbegun : Option Clock → Option Clock → Type 0
IsUnbegun old new = IsUnread old new ⊎ ((rs : List Record) × Journaled rs [] old new)
