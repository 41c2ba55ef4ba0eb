-- What a room holds, and the state of the machine that it stands for.
use Rattle.std.specs.Prelude.{◌≡◌, ◌≤◌, ℕ, ◌+◌, ◌-◌, ◌&&◌, ◌==◌, Bool, List, [], ◌∷◌, ◌++◌, nat_lt, nat_le, length, map, take, slice_index_or, Option, Some, None, if◌then◌else◌, All}
use Rattle.ifdb_store.specs.Kept.{trimmed}
use Rattle.ifdb_wire.specs.declared.fault.Fault.TheVariants as fault
use Rattle.ifdb_model.specs.Log.{Entry, stamped_from}
use Rattle.ifdb_model.specs.Session.{Session, Txn, seen_in}
use Rattle.ifdb_model.specs.Step.{Outcome, refuses}
use Rattle.ifdb_model.specs.Run.{State}
use Rattle.ifdb_db.specs.Answer.{answered}
use Rattle.ifdb_db.specs.Client.{Open, Client, session_at}
use Rattle.ifdb_db.specs.Desk.{Desk, oldest}
use Rattle.ifdb_db.specs.Kept.{AreHeld, IsSound}
use Rattle.ifdb_db.specs.Reading.{read_line}

-- what all see outside transactions, and the clients by number from 1
pub record Hall : Type 0 where
  pub desk : Desk
  pub clients : List Client

-- ---- what it stands for

-- how often a number stands in a list
abbrev pub times : ℕ → List ℕ → ℕ
times n [] = 0
times n (x ∷ xs) = if x == n then times n xs + 1 else times n xs

-- where an open transaction began
abbrev pub begin_of : Option Txn → List ℕ
begin_of None = []
begin_of (Some x) = x.begin ∷ []

-- where the open transactions of some sessions began
abbrev pub begins_of : List Session → List ℕ
begins_of [] = []
begins_of (s ∷ sessions) = begin_of s.txn ++ begins_of sessions

-- The desk is what the state's log leaves: what all see, the commits above the oldest open BEGIN with their stamps, the
-- length of the log, and where the sessions' open transactions began.
pub record IsOf (d : Desk) (st : State) : Type 0 where
  pub seen : d.seen ≡ seen_in st.log None
  pub commits : d.commits ≡ trimmed (oldest d) (stamped_from 0 st.log)
  pub count : d.count ≡ length st.log
  pub begins : (b : ℕ) → times b d.begins ≡ times b (begins_of st.sessions)

-- an open transaction is over what all saw where it began in the log
abbrev pub IsOver : List Entry → Option Open → Type 0
IsOver log None = Unit {0}
IsOver log (Some x) = (x.begin ≤ length log) × (x.base ≡ seen_in (take x.begin log) None)

-- the room stands for a state of the machine
pub record StandsFor (room : Hall) (st : State) : Type 0 where
  pub desk : IsOf room.desk st
  pub sessions : map session_at room.clients ≡ st.sessions
  pub over : All (λ (c : Client). IsOver st.log c.txn) room.clients

-- ---- clients of a room

-- a client that was never opened
abbrev pub no_client : Client
no_client = record { is_open = Rattle.std.specs.Prelude.false; principal = None; ceiling = None; label = []; txn = None }

-- the number is that of a client that was opened
abbrev pub was_opened : Hall → ℕ → Bool
was_opened h n = nat_lt 0 n && nat_le n (length h.clients)

-- the client of a number; client 0 and those that were never opened are closed and have the empty label
abbrev pub client_in : Hall → ℕ → Client
client_in h n = if nat_lt 0 n then slice_index_or h.clients (n - 1) no_client else no_client

-- what a line of a client comes to
abbrev pub outcome_in : Hall → ℕ → List ℕ → Outcome
outcome_in h n line =
    if (client_in h n).is_open then answered h.desk (client_in h n) (read_line line) else refuses (session_at (client_in h n)) fault.NoSession

-- what is true of every room
pub record IsSoundRoom (h : Hall) : Type 0 where
  pub desk : IsSound h.desk
  pub clients : AreHeld h.desk h.clients
