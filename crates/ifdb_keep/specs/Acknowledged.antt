-- decides: the journal
-- What was acknowledged is kept: of two calls that take turns, one that adds a step's records and touches no output, and one that writes
-- its reply and touches no disk.
use Rattle.std.specs.Prelude.{◌≡◌, ℕ, ◌+◌, ◌≤◌, Bool, List, [], ◌∷◌, ◌++◌, length, take, map, flat_map, Option, Some}
use Rattle.ifdb_disk.specs.Images.{IsImage}
use Rattle.ifdb_disk.specs.Clock.{Clock, Leaves, Now}
use Rattle.ifdb_journal.specs.Records.{ReadsAs}
use Rattle.ifdb_journal.specs.Reading.{Holds, Adds, MayAdd, AddsEach, BreaksAt, joined}
use Rattle.ifdb_journal.specs.declared.record.Record.{Record}
use Rattle.ifdb_model.specs.Step.{Reader}
use Rattle.ifdb_model.specs.Run.{Step, opening}
use Rattle.ifdb_model.specs.Output.{told_of, refused_at}
use Rattle.ifdb_model.specs.Script.{steps_of}
use Rattle.ifdb_replay.specs.Replay.{StayIn}
use Rattle.ifdb_keep.specs.Numbered.{told_from}
use Rattle.ifdb_keep.specs.Resumed.{begun, front_of, HasBegun}
use Rattle.ifdb_keep.specs.Taken.{state_by, records_by}

-- a turn: these records are added, and then this reply is written
pub record Turn : Type 0 where
  pub entries : List Record
  pub text : List ℕ

-- the records of some turns, and the replies
abbrev pub entries_of : List Turn → List (List Record)
entries_of turns = map (λ (t : Turn). t.entries) turns

abbrev pub replies_of : List Turn → List ℕ
replies_of turns = flat_map (λ (t : Turn). t.text) turns

-- An image reads whole, as the records from before and those of the first turns, among them each turn of whose reply a byte is among
-- the first bytes that were written, so many.
abbrev pub HoldsAcknowledged : List Record → List Turn → ℕ → List ℕ → Type 0
HoldsAcknowledged rs turns written image = (n : ℕ) × (n ≤ length turns) × ReadsAs (rs ++ joined (entries_of (take n turns))) image × (written ≤ length (replies_of (take n turns)))

-- At every moment of every turn: while its records are added, the replies of the turns before are written, and while its reply is
-- written, nothing is done to the disk. So each image at each moment has the records of all turns of whose replies a byte was written.
abbrev pub AcknowledgedIsKept : Type 0
AcknowledgedIsKept = (rs : List Record) (turns : List Turn) (turn : Turn) (t u v : Option Clock) (at next last : ℕ)
    → Holds t rs at → AddsEach (entries_of turns) t at u next → MayAdd turn.entries u next v
    → Leaves u v (HoldsAcknowledged rs (turns ++ turn ∷ []) (length (replies_of turns)))
    × (Adds turn.entries u next v last → (n : ℕ) → n ≤ length turn.text
    → Now v (λ s. (image : List ℕ) → IsImage s image → HoldsAcknowledged rs (turns ++ turn ∷ []) (length (replies_of turns) + n) image))

-- Over an empty journal a script is told what a plain run of it is told.
abbrev pub FirstKeepIsARun : Type 0
FirstKeepIsARun = (read : Reader) (input : List ℕ) (flags : List Bool) → told_from read opening 0 (refused_at flags (steps_of input)) ≡ told_of read input flags

-- The next call begins where a crash left a run: whatever first records of its steps are there, their replay comes to the log of the
-- first of the steps, among them each whose record is there, and each before it.
abbrev pub NextKeepGoesOn : Type 0
NextKeepGoesOn = (rs : List Record) (steps : List Step) (n : ℕ) → StayIn steps → (m : ℕ)
    × (take n (records_by rs steps) ≡ records_by rs (take m steps))
    × ((begun (front_of rs ++ take n (records_by rs steps))).log ≡ (state_by rs (take m steps)).log)
    × ((k : ℕ) → length (records_by rs (take k steps)) ≤ n → k ≤ length steps → k ≤ m)

-- And it is never refused: bytes that a crash left of a run, and that a disk shows, are damaged nowhere.
abbrev pub NextKeepIsWhole : Type 0
NextKeepIsWhole = (rs more : List Record) (disk : Clock) → HasBegun rs more disk.now.bytes → (at : ℕ) → BreaksAt (Some disk) at → ⊥
