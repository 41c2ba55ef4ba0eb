-- A session as its connection has it: in the room, or lent; then with the work of its transaction, which no turn has brought
-- along yet.
use Rattle.std.specs.Prelude.{◌≡◌, ◌⊎◌, ℕ, Bool, true, false, List, [], ◌∷◌, ◌++◌, Option, Some, None}
use Rattle.ifdb_wire.specs.declared.reply.Reply.{Reply}
use Rattle.ifdb_wire.specs.Text.{memory_text, reply_text}
use Rattle.ifdb_model.specs.Run.{session_of}
use Rattle.ifdb_history.specs.declared.entry.Entry.{Entry}
use Rattle.ifdb_history.specs.declared.entry.Kind.TheVariants as kind
use Rattle.ifdb_history.specs.declared.entry.Note.{Note}
use Rattle.ifdb_history.specs.History.{after, entry_of, Holds, IsShut}
use Rattle.ifdb_history.specs.Lines.{lines_with, IsToldWith}
use Rattle.ifdb_db.specs.Client.{Client, session_at}
use Rattle.ifdb_db.specs.Lent.{IsLent, Answers, EndsTransaction}
use Rattle.ifdb_db.specs.Looks.{Looking, Shows}
use Rattle.ifdb_db.specs.Room.{IsOver}
use Rattle.ifdb_session.specs.declared.seat.Seat.{Seat}
use Rattle.ifdb_model.specs.Log.{Entry as LogEntry}
use Rattle.ifdb_session.specs.Starts.{start_of}

-- the work of a seat
abbrev pub work_of : Seat → List Note
work_of s = s.work.notes

-- the lines that its session asked, in a history and since then
abbrev pub lines_in : List Entry → Seat → List (List ℕ)
lines_in h s = lines_with s.number h (work_of s)

-- and it was told these bytes
abbrev pub IsToldIn : List LogEntry → List Entry → Seat → List ℕ → Type 0
IsToldIn first h s text = IsToldWith (start_of first) s.number h (work_of s) text

-- ---- the entries of a turn that brings work along

-- a session asks a line
abbrev pub asked_entry : List Entry → ℕ → List Note → List ℕ → Entry
asked_entry h n work line = entry_of h n (kind.Asked n work line)

-- it leaves
abbrev pub left_entry : List Entry → ℕ → List Note → Entry
left_entry h n work = entry_of h n (kind.Left n work)

-- ---- what a lent session did

-- by a line it came from c to e, and was told this text; there was no memory, or it answered from itself alone
abbrev pub IsToldAs : Bool → List ℕ → Client → Client → List ℕ → Type 0
IsToldAs true line c e text = (e ≡ c) × (text ≡ memory_text None)
IsToldAs false line c e text = (r : Reply) × Answers line c e r × (text ≡ reply_text None r)

-- by this work it came from c to e
abbrev pub IsWorked : List Note → Client → Client → Type 0
IsWorked [] c e = e ≡ c
IsWorked (w ∷ work) c e = (d : Client) × (text : List ℕ) × IsToldAs w.is_refused w.line c d text × IsWorked work d e

-- a session was lent as the history leaves it, and came to c by this work
pub record Works (first : List LogEntry) (h : List Entry) (n : ℕ) (work : List Note) (c : Client) : Type 0 where
  pub begun : Client
  pub session : session_of (after (start_of first) h) n ≡ session_at begun
  pub over : IsOver (after (start_of first) h).log begun.txn
  pub lent : IsLent begun
  pub worked : IsWorked work begun c

-- so it is with a session that is lent; one in the room has no work
abbrev pub WorksIf : List LogEntry → List Entry → ℕ → List Note → Option Client → Type 0
WorksIf first h n work None = work ≡ []
WorksIf first h n work (Some c) = Works first h n work c

-- the session of a seat is open, and its seat is as the history and its work say
pub record IsSeated (first : List LogEntry) (h : List Entry) (own : List ℕ) (s : Seat) : Type 0 where
  pub holds : Holds (start_of first) h own s.number
  pub works : WorksIf first h s.number (work_of s) s.lent

-- it is over, and no work is left
pub record IsGone (first : List LogEntry) (h : List Entry) (s : Seat) : Type 0 where
  pub shut : IsShut (after (start_of first) h) s.number
  pub none : work_of s ≡ []

-- ---- a line that is asked of a seat alone

-- a session that is lent is open and in its transaction
abbrev pub IsLentIf : Option Client → Type 0
IsLentIf None = Unit {0}
IsLentIf (Some c) = IsLent c

-- it was asked a line so, if it can answer it alone
abbrev pub IsAskedOf : List ℕ → Client → Client → List ℕ → Option Bool → Type 0
IsAskedOf line c e text None = (e ≡ c) × EndsTransaction line
IsAskedOf line c e text (Some is_refused) = IsToldAs is_refused line c e text

-- the lent session was asked the line, and was told this
pub record Notes (line : List ℕ) (old new : Seat) (text : List ℕ) : Type 0 where
  pub before : Client
  pub now : Client
  pub is_refused : Bool
  pub was : old.lent ≡ Some before
  pub is : new.lent ≡ Some now
  pub told : IsToldAs is_refused line before now text
  pub number : new.number ≡ old.number
  pub work : work_of new ≡ work_of old ++ record { line = line; is_refused = is_refused } ∷ []

-- a line is for the room: its session isn't lent, or the line ends the transaction
abbrev pub IsForRoom : List ℕ → Option Client → Type 0
IsForRoom line None = Unit {0}
IsForRoom line (Some c) = EndsTransaction line

-- so it was; or it is for the room, and nothing has changed
abbrev pub IsAskedAlone : List ℕ → Seat → Seat → List ℕ → Bool → Type 0
IsAskedAlone line old new text true = Notes line old new text
IsAskedAlone line old new text false = (new ≡ old) × IsForRoom line old.lent

-- ---- a look

-- it was answered with this text, or there was no memory for the answer
abbrev pub IsShownAs : Looking → List ℕ → Type 0
IsShownAs x text = ((r : Reply) × Shows x r × (text ≡ reply_text None r)) ⊎ (text ≡ memory_text None)
