-- decides: the machine
-- Runs: steps of sessions that take turns.
use Rattle.std.specs.Prelude.{ℕ, ◌+◌, ◌-◌, List, [], ◌∷◌, ◌++◌, length, slice_index_or, slice_set, nat_lt, option_to_list, if◌then◌else◌}
use Rattle.ifdb_wire.specs.declared.fault.Fault.TheVariants as fault
use Rattle.ifdb_wire.specs.declared.reply.Reply.{Reply}
use Rattle.ifdb_wire.specs.declared.reply.Reply.TheVariants as reply
use Rattle.ifdb_model.specs.Log.{Entry}
use Rattle.ifdb_model.specs.Session.{Session, new_session, no_session, closed}
use Rattle.ifdb_model.specs.Step.{Reader, Outcome, refuses, ask}

-- the log, and the sessions by number from 1
pub record State : Type 0 where
  pub log : List Entry
  pub sessions : List Session

-- the state before the first step
abbrev pub opening : State
opening = record { log = []; sessions = [] }

-- the session of a number; session 0 and sessions that were never opened are closed and have the empty label
abbrev pub session_of : State → ℕ → Session
session_of st n = if nat_lt 0 n then slice_index_or st.sessions (n - 1) no_session else no_session

-- a step: a session is opened; a session asks a line; want of memory refuses a session's step; a line is too long or of
-- no session; a session leaves without BYE
pub data Step : Type 0 where
  opens : Step
  asks : ℕ → List ℕ → Step
  refused : ℕ → Step
  long : Step
  stray : Step
  leaves : ℕ → Step

-- what a session that may be open comes to
abbrev pub outcome_of : Reader → State → ℕ → List ℕ → Outcome
outcome_of read st n line =
    if (session_of st n).is_open then ask read st.log (session_of st n) line else refuses (session_of st n) fault.NoSession

-- a session in its place, and what its line adds to the log
abbrev pub with_outcome : State → ℕ → Outcome → State
with_outcome st n o = record { log = st.log ++ option_to_list o.added; sessions = slice_set st.sessions (n - 1) o.session }

-- a session in its place
abbrev pub with_session : State → ℕ → Session → State
with_session st n s = record st { sessions = slice_set st.sessions (n - 1) s }

-- the state after a step
abbrev pub next : Reader → State → Step → State
next read st opens = record st { sessions = st.sessions ++ new_session ∷ [] }
next read st (asks n line) = if (session_of st n).is_open then with_outcome st n (ask read st.log (session_of st n) line) else st
next read st (refused n) = st
next read st long = st
next read st stray = st
next read st (leaves n) = if (session_of st n).is_open then with_session st n (closed (session_of st n)) else st

-- a reply, and the number of the session that it is told to
pub record Told : Type 0 where
  pub number : ℕ
  pub reply : Reply

-- one reply to a session
abbrev pub tell : ℕ → Reply → List Told
tell n r = record { number = n; reply = r } ∷ []

-- what is told at a step
abbrev pub told : Reader → State → Step → List Told
told read st opens = tell (length st.sessions + 1) reply.Opened
told read st (asks n line) = tell n (outcome_of read st n line).reply
told read st (refused n) = tell n (reply.Refused fault.OutOfMemory)
told read st long = tell 0 (reply.Refused fault.TooLong)
told read st stray = tell 0 (reply.Refused (fault.Syntax 0))
told read st (leaves n) = []

-- the state after some steps
abbrev pub run : Reader → State → List Step → State
run read st [] = st
run read st (x ∷ steps) = run read (next read st x) steps

-- what is told at some steps
abbrev pub replies : Reader → State → List Step → List Told
replies read st [] = []
replies read st (x ∷ steps) = told read st x ++ replies read (next read st x) steps
