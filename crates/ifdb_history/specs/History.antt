-- decides: the service
-- The history of a served room, as steps of the machine, over the log that there was when it began.
use Rattle.std.specs.Prelude.{◌≡◌, ℕ, ◌+◌, ◌-◌, ◌<◌, ◌≤◌, true, false, List, [], ◌∷◌, ◌++◌, length, map, drop, if◌then◌else◌}
use mathlib.Core.Option.{some, none}
use mathlib.Core.Option as maybe
use lib.ListN.{get_elem?}
use Rattle.ifdb_turn.specs.Places.{times}
use Rattle.ifdb_model.specs.Log.{Entry as LogEntry}
use Rattle.ifdb_model.specs.Session.{in_txn}
use Rattle.ifdb_model.specs.Step.{Reader}
use Rattle.ifdb_model.specs.Run.{State, session_of, Step, opens, asks, refused, leaves, next, run}
use Rattle.ifdb_history.specs.declared.entry.Entry.{Entry}
use Rattle.ifdb_history.specs.declared.entry.Kind.{Kind}
use Rattle.ifdb_history.specs.declared.entry.Note.{Note}
use Rattle.ifdb_history.specs.declared.entry.Kind.TheVariants as kind

-- where a history begins: how lines are read, and the log that there is
pub record Start : Type 0 where
  pub read : Reader
  pub log : List LogEntry

-- the state there: no session was opened yet
abbrev pub first_state : Start → State
first_state start = record { log = start.log; sessions = [] }

-- the step of a line that a session asked in its transaction, away from the room
abbrev pub note_step : ℕ → Note → Step
note_step n w = if w.is_refused then refused n else asks n w.line

-- the steps of such lines: the work of a transaction
abbrev pub work_steps : ℕ → List Note → List Step
work_steps n work = map (note_step n) work

-- the steps that a turn stands for
abbrev pub steps_of : Kind → List Step
steps_of kind.Opened = opens ∷ []
steps_of (kind.Asked n work line) = work_steps n work ++ asks n line ∷ []
steps_of (kind.Looked n line) = asks n line ∷ []
steps_of (kind.Refused n line) = refused n ∷ []
steps_of (kind.Left n work) = work_steps n work ++ leaves n ∷ []

-- the steps of a history, in their order
abbrev pub flat : List Entry → List Step
flat [] = []
flat (e ∷ h) = steps_of e.kind ++ flat h

-- the state after a history
abbrev pub after : Start → List Entry → State
after start h = run start.read (first_state start) (flat h)

-- what a history added to the log
abbrev pub added_in : Start → List Entry → List LogEntry
added_in start h = drop (length start.log) (after start h).log

-- ---- whose entries they are

-- a session of this number was opened
abbrev pub WasOpened : State → ℕ → Type 0
WasOpened st n = (0 < n) × (n ≤ length st.sessions)

-- it is open
abbrev pub IsOpen : State → ℕ → Type 0
IsOpen st n = (session_of st n).is_open ≡ true

-- it was opened and is over
abbrev pub IsShut : State → ℕ → Type 0
IsShut st n = WasOpened st n × ((session_of st n).is_open ≡ false)

-- the place of a turn, if it opened a session
abbrev pub root_of : ℕ → Kind → List ℕ
root_of place kind.Opened = place ∷ []
root_of place (kind.Asked n work line) = []
root_of place (kind.Looked n line) = []
root_of place (kind.Refused n line) = []
root_of place (kind.Left n work) = []

-- the places of the turns that opened sessions, of a history that begins at a place
abbrev pub roots_from : ℕ → List Entry → List ℕ
roots_from place [] = []
roots_from place (e ∷ h) = root_of place e.kind ++ roots_from (place + 1) h

-- the session of this number was opened at this place
abbrev pub HasRoot : List Entry → ℕ → ℕ → Type 0
HasRoot h n place = get_elem? (roots_from 0 h) (n - 1) ≡ some place

-- the session has an open transaction before each of these lines and after it
abbrev pub IsWork : Reader → State → ℕ → List Note → Type 0
IsWork read st n [] = Unit {0}
IsWork read st n (w ∷ work) =
    (in_txn (session_of st n).txn ≡ true) × (in_txn (session_of (next read st (note_step n w)) n).txn ≡ true)
    × IsWork read (next read st (note_step n w)) n work

-- a line of the session only looks: its step changes nothing
abbrev pub OnlyLooks : Reader → State → ℕ → List ℕ → Type 0
OnlyLooks read st n line = next read st (asks n line) ≡ st

-- the session is open and was opened at this place
abbrev pub IsAt : Start → List Entry → ℕ → ℕ → Type 0
IsAt start h n root = IsOpen (after start h) n × HasRoot h n root

-- A turn may come right after the history: it opens a session, which is its own root, or it is of an open session and names
-- the place where that was opened. The lines that it brings along are of that session's open transaction, and a line that is
-- answered after the turn only looks.
abbrev pub IsRightKind : Start → List Entry → ℕ → Kind → Type 0
IsRightKind start h root kind.Opened = root ≡ length h
IsRightKind start h root (kind.Asked n work line) = IsAt start h n root × IsWork start.read (after start h) n work
IsRightKind start h root (kind.Looked n line) = IsAt start h n root × OnlyLooks start.read (after start h) n line
IsRightKind start h root (kind.Refused n line) = IsAt start h n root
IsRightKind start h root (kind.Left n work) = IsAt start h n root × IsWork start.read (after start h) n work

abbrev pub IsRight : Start → List Entry → Entry → Type 0
IsRight start h e = IsRightKind start h e.root e.kind

-- the session is open, and the turn that opened it is among these places
abbrev pub Holds : Start → List Entry → List ℕ → ℕ → Type 0
Holds start h own n = IsOpen (after start h) n × ((place : ℕ) × HasRoot h n place × (0 < times place own))

-- ---- the entries that turns add

-- a place, if there is one
abbrev pub root_at : maybe.Option ℕ → ℕ
root_at none = 0
root_at (some place) = place

-- the place where a session was opened
abbrev pub root_in : List Entry → ℕ → ℕ
root_in h n = root_at (get_elem? (roots_from 0 h) (n - 1))

-- a session is opened
abbrev pub opening_entry : List Entry → Entry
opening_entry h = record { root = length h; kind = kind.Opened }

-- a turn of a session that was opened
abbrev pub entry_of : List Entry → ℕ → Kind → Entry
entry_of h n x = record { root = root_in h n; kind = x }

-- ---- the entries of a session

-- the turn at this place is of the session, or opened it
abbrev pub IsKindOf : ℕ → List Entry → ℕ → Kind → Type 0
IsKindOf n h place kind.Opened = HasRoot h n place
IsKindOf n h place (kind.Asked m work line) = m ≡ n
IsKindOf n h place (kind.Looked m line) = m ≡ n
IsKindOf n h place (kind.Refused m line) = m ≡ n
IsKindOf n h place (kind.Left m work) = m ≡ n

-- so is the entry at this place of the history
abbrev pub IsEntryOf : ℕ → List Entry → ℕ → Type 0
IsEntryOf n h place = (e : Entry) × (get_elem? h place ≡ some e) × IsKindOf n h place e.kind

-- so are the entries at these places
abbrev pub AreEntriesOf : ℕ → List Entry → List ℕ → Type 0
AreEntriesOf n h [] = Unit {0}
AreEntriesOf n h (place ∷ places) = IsEntryOf n h place × AreEntriesOf n h places
