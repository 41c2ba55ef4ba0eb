-- decides: the journal
-- What records stand for, and which steps have a record.
use Rattle.std.specs.Prelude.{◌≡◌, ℕ, ◌+◌, Bool, true, not, ◌&&◌, List, [], ◌∷◌, ◌++◌, Result, Ok, Err, if◌then◌else◌, ⊤}
use Rattle.ifdb_journal.specs.declared.record.Record.{Record}
use Rattle.ifdb_journal.specs.declared.record.RecordKind.{RecordKind}
use Rattle.ifdb_journal.specs.declared.record.RecordKind.TheVariants as kind
use Rattle.ifdb_syntax.specs.declared.request.Request.{Request}
use Rattle.ifdb_syntax.specs.declared.request.Request.TheVariants as request
use Rattle.ifdb_wire.specs.declared.fault.Fault.{Fault}
use Rattle.ifdb_model.specs.Session.{Session}
use Rattle.ifdb_model.specs.Step.{Reader}
use Rattle.ifdb_model.specs.Run.{State, Step, opens, asks, refused, long, stray, leaves, session_of, next, run}

-- the numbers of the open sessions, in rising order, where the first of these has the number n
abbrev pub open_from : ℕ → List Session → List ℕ
open_from n [] = []
open_from n (s ∷ sessions) = if s.is_open then n ∷ open_from (n + 1) sessions else open_from (n + 1) sessions

-- each of these sessions leaves
abbrev pub all_leave : List ℕ → List Step
all_leave [] = []
all_leave (n ∷ ns) = leaves n ∷ all_leave ns

-- the steps of a record of this kind, where the run stands at this state
abbrev pub steps_by : State → RecordKind → Record → List Step
steps_by st kind.Open r = opens ∷ []
steps_by st kind.Ask r = asks r.session r.line ∷ []
steps_by st kind.Restart r = all_leave (open_from 1 st.sessions)

abbrev pub steps_of : State → Record → List Step
steps_of st r = steps_by st r.kind r

-- the steps of some records
abbrev pub replay : Reader → State → List Record → List Step
replay read st [] = []
replay read st (r ∷ records) = steps_of st r ++ replay read (run read st (steps_of st r)) records

-- the state that a replay leaves
abbrev pub replayed : Reader → State → List Record → State
replayed read st records = run read st (replay read st records)

-- ---- which lines have no record

-- whether a line asks for no change, by its first word
abbrev pub Quiet : Type 0
Quiet = List ℕ → Bool

-- the record of an opened session
abbrev pub opened : Record
opened = record { kind = kind.Open; session = 0; line = [] }

-- the record of a line
abbrev pub asked : ℕ → List ℕ → Record
asked n line = record { kind = kind.Ask; session = n; line = line }

-- the records of a step
abbrev pub records_of : Quiet → State → Step → List Record
records_of quiet st opens = opened ∷ []
records_of quiet st (asks n line) = if (session_of st n).is_open && not (quiet line) then asked n line ∷ [] else []
records_of quiet st (refused n) = []
records_of quiet st long = []
records_of quiet st stray = []
records_of quiet st (leaves n) = []

-- the records of some steps; which sessions are open is judged in the run
abbrev pub kept : Quiet → Reader → State → List Step → List Record
kept quiet read st [] = []
kept quiet read st (x ∷ steps) = records_of quiet st x ++ kept quiet read (next read st x) steps

-- no session leaves without BYE
abbrev pub StayIn : List Step → Type 0
StayIn [] = ⊤
StayIn (leaves n ∷ steps) = ⊥
StayIn (_ ∷ steps) = StayIn steps

-- a line that is read so changes nothing: it has a fault, or it is a SELECT or SHOW LABEL
abbrev pub ChangesNothing : Result Request Fault → Type 0
ChangesNothing (Err f) = ⊤
ChangesNothing (Ok (request.Select select)) = ⊤
ChangesNothing (Ok request.ShowLabel) = ⊤
ChangesNothing (Ok _) = ⊥

-- lines without a record change nothing
abbrev pub IsQuiet : Quiet → Reader → Type 0
IsQuiet quiet read = (line : List ℕ) → quiet line ≡ true → ChangesNothing (read line)

-- The law: what is kept of some steps replays to the state that the steps leave.
abbrev pub ReplayKeeps : Type 0
ReplayKeeps = (quiet : Quiet) (read : Reader) → IsQuiet quiet read → (st : State) (steps : List Step) → StayIn steps → replayed read st (kept quiet read st steps) ≡ run read st steps

-- and records behind records replay one behind the other
abbrev pub ReplayGoesOn : Type 0
ReplayGoesOn = (read : Reader) (st : State) (first more : List Record) → replayed read st (first ++ more) ≡ replayed read (replayed read st first) more
