-- decides: closures
-- Stored closures: what a CALL asks of a session of its own, and what a script with closures is told.
use Rattle.std.specs.Prelude.{ℕ, ◌+◌, Bool, true, false, List, [], ◌∷◌, ◌++◌, ◌==◌, codes, length, map, slice_index_or, bytes_eq, Option, Some, None, is_some, Result, Ok, if◌then◌else◌}
use Rattle.ifdb_label.specs.Label.{flows}
use Rattle.ifdb_syntax.specs.declared.request.Request.{Request}
use Rattle.ifdb_syntax.specs.declared.request.Request.TheVariants as request
use Rattle.ifdb_syntax.specs.canonical.Text.{canonical_text}
use Rattle.ifdb_wire.specs.declared.fault.Fault.{Fault}
use Rattle.ifdb_wire.specs.declared.fault.Fault.TheVariants as fault
use Rattle.ifdb_wire.specs.declared.reply.Reply.{Reply}
use Rattle.ifdb_wire.specs.declared.reply.Reply.TheVariants as reply
use Rattle.ifdb_catalog.specs.Public.{Public, tag_names}
use Rattle.ifdb_model.specs.Log.{Entry, all_tags, public_of}
use Rattle.ifdb_model.specs.Session.{Session, in_txn}
use Rattle.ifdb_model.specs.Step.{Reader, is_empty}
use Rattle.ifdb_closure.specs.Numbers.{number_at}
use Rattle.ifdb_model.specs.Run.{State, opening, session_of, Step, opens, asks, refused, long, stray, leaves, outcome_of, next, run, Told, tell}

-- ---- closures

-- an accepted HELLO
pub record Greeting : Type 0 where
  pub name : List ℕ
  pub key : List ℕ

-- of who never said HELLO
abbrev pub nobody : Greeting
nobody = record { name = []; key = [] }

-- a name, who defined it, and the lines of its statements
pub record Closure : Type 0 where
  pub name : List ℕ
  pub owner : Greeting
  pub statements : List (List ℕ)

-- what a line is to a script with closures: a line of the server's own; CREATE CLOSURE or CALL with a fault; CREATE CLOSURE; CALL
pub data ClosureLine : Type 0 where
  plain : ClosureLine
  faulty : Fault → ClosureLine
  creates : List ℕ → List (List ℕ) → ClosureLine
  calls : List ℕ → ClosureLine

-- how lines are read
pub record Speech : Type 0 where
  pub read : Reader
  pub form : List ℕ → ClosureLine

-- the closure of a name
abbrev pub closure_named : List Closure → List ℕ → Option Closure
closure_named [] name = None
closure_named (c ∷ closures) name = if bytes_eq c.name name then Some c else closure_named closures name

-- ---- what a CALL asks

-- HELLO of the owner
abbrev pub hello_line : Greeting → List ℕ
hello_line g = canonical_text (request.Hello g.name g.key)

-- the names of a label's tags
abbrev pub names_of : Public → List ℕ → List (List ℕ)
names_of p label = map (λ t. slice_index_or (tag_names p) t []) label

-- SET LABEL to a label
abbrev pub label_line : List Entry → List ℕ → List ℕ
label_line log label = canonical_text (request.SetLabel (names_of (public_of log) label))

abbrev pub begin_line : List ℕ
begin_line = codes "BEGIN"

abbrev pub commit_line : List ℕ
commit_line = codes "COMMIT"

-- all lines but the COMMIT
abbrev pub call_lines : List Entry → List ℕ → Closure → List (List ℕ)
call_lines log label c = hello_line c.owner ∷ label_line log label ∷ begin_line ∷ c.statements

-- it is a refusal
abbrev pub is_refusal : Reply → Bool
is_refusal (reply.Refused f) = true
is_refusal _ = false

-- error 20
abbrev pub memory_fault : Reply
memory_fault = reply.Refused fault.OutOfMemory

-- what a call's session was asked; whether the line behind that had no memory; and what the caller is told
pub record Called : Type 0 where
  pub asked : List (List ℕ)
  pub lacked : Bool
  pub told : Reply

-- The next line has no memory, and isn't asked.
abbrev pub call_lacks : Called
call_lacks = record { asked = []; lacked = true; told = memory_fault }

-- the last line: its refusal, or the reply to the line before it
abbrev pub call_ends : Speech → ℕ → State → Reply → Called
call_ends x h st last =
    let r = (outcome_of x.read st h commit_line).reply in
    record { asked = commit_line ∷ []; lacked = false; told = if is_refusal r then r else last }

-- A line was asked: a refusal ends the call, and so does a label that isn't within the caller's. Else the rest follows.
abbrev pub call_goes : Speech → Bool → Bool → List ℕ → Reply → Called → Called
call_goes x stops within line r more =
    if stops then record { asked = line ∷ []; lacked = false; told = r }
    else (if within then record { asked = line ∷ more.asked; lacked = more.lacked; told = more.told }
    else record { asked = line ∷ []; lacked = false; told = reply.Refused fault.ClosureLabel })

-- the label of a session flows to this one
abbrev pub is_within : List ℕ → ℕ → State → Bool
is_within label h st = flows (all_tags st.log) (session_of st h).label label

-- Each line has a flag: there is no memory for it. Lines behind the last flag have theirs.
abbrev pub lacks_first : List Bool → Bool
lacks_first [] = false
lacks_first (lacks ∷ flags) = lacks

abbrev pub flags_behind : List Bool → List Bool
flags_behind [] = []
flags_behind (lacks ∷ flags) = flags

-- These lines of session h, for a caller at this label, where the line before was told this; and then COMMIT. The flags are those
-- of the lines and of the COMMIT.
abbrev pub call_on : Speech → List ℕ → ℕ → State → Reply → List Bool → List (List ℕ) → Called
call_on x label h st last flags [] = if lacks_first flags then call_lacks else call_ends x h st last
call_on x label h st last flags (line ∷ lines) =
    let more = next x.read st (asks h line) in
    let r = (outcome_of x.read st h line).reply in
    if lacks_first flags then call_lacks
    else call_goes x (is_refusal r) (is_within label h more) line r (call_on x label h more r (flags_behind flags) lines)

-- a call of a closure, for a caller at this label, with these flags; its session is the next one
abbrev pub called_with : Speech → State → List ℕ → Closure → List Bool → Called
called_with x st label c flags =
    call_on x label (length st.sessions + 1) (next x.read st opens) reply.Opened flags (call_lines st.log label c)

-- the same with all its memory
abbrev pub called : Speech → State → List ℕ → Closure → Called
called x st label c = called_with x st label c []

-- the steps of session h
abbrev pub asked_of : ℕ → List (List ℕ) → List Step
asked_of h lines = map (asks h) lines ++ leaves h ∷ []

-- the steps that a call stands for
abbrev pub call_steps : Speech → State → List ℕ → Closure → List Step
call_steps x st label c = opens ∷ asked_of (length st.sessions + 1) (called x st label c).asked

-- ---- a script

-- an accepted HELLO of the script's session of a number
pub record Greeted : Type 0 where
  pub number : ℕ
  pub greeting : Greeting

-- The machine's state; the numbers among all sessions of the script's sessions, which it counts from 1 on; their accepted HELLOs, the
-- last one first; and the closures.
pub record World : Type 0 where
  pub state : State
  pub seats : List ℕ
  pub greetings : List Greeted
  pub closures : List Closure

abbrev pub start : World
start = record { state = opening; seats = []; greetings = []; closures = [] }

-- the script's session of a number; where it opened none, session 0, which is never open
abbrev pub seated : World → ℕ → Session
seated w n = session_of w.state (number_at w.seats n)

-- what it said HELLO by
abbrev pub greeting_in : List Greeted → ℕ → Greeting
greeting_in [] n = nobody
greeting_in (g ∷ greetings) n = if g.number == n then g.greeting else greeting_in greetings n

-- what a step of the script comes to: the machine's steps, what is told, and what stands afterwards beside the machine
pub record Turn : Type 0 where
  pub steps : List Step
  pub told : List Told
  pub seats : List ℕ
  pub greetings : List Greeted
  pub closures : List Closure

-- nothing but a reply
abbrev pub tells_only : World → ℕ → Reply → Turn
tells_only w n r = record { steps = []; told = tell n r; seats = w.seats; greetings = w.greetings; closures = w.closures }

abbrev pub refuses_only : World → ℕ → Fault → Turn
refuses_only w n f = tells_only w n (reply.Refused f)

-- the greeting of a HELLO
abbrev pub hello_of : Result Request Fault → Option Greeting
hello_of (Ok (request.Hello name key)) = Some (record { name = name; key = key })
hello_of _ = None

abbrev pub is_done : Reply → Bool
is_done reply.Done = true
is_done _ = false

-- one that was accepted
abbrev pub greeted : ℕ → Option Greeting → Bool → List Greeted
greeted n (Some g) true = record { number = n; greeting = g } ∷ []
greeted n _ _ = []

-- a line of the server's own
abbrev pub asks_plain : Speech → World → ℕ → List ℕ → Turn
asks_plain x w n line =
    let r = (outcome_of x.read w.state (number_at w.seats n) line).reply in
    record {
      steps = asks (number_at w.seats n) line ∷ [];
      told = tell n r;
      seats = w.seats;
      greetings = greeted n (hello_of (x.read line)) (is_done r) ++ w.greetings;
      closures = w.closures;
    }

-- why CREATE CLOSURE or CALL is refused before all of its own: by whether the session is open, said HELLO, has a transaction
abbrev pub asker_fault : Bool → Bool → Bool → Option Fault
asker_fault false greeted busy = Some fault.NoSession
asker_fault true false busy = Some fault.NotHello
asker_fault true true true = Some fault.InTransaction
asker_fault true true false = None

-- and by whether its label is empty, and a closure has the name
abbrev pub create_fault : Bool → Bool → Option Fault → Option Fault
create_fault empty known (Some f) = Some f
create_fault false known None = Some fault.LabelNotEmpty
create_fault true true None = Some fault.Taken
create_fault true false None = None

-- a CALL needs a closure of the name
abbrev pub call_fault : Bool → Option Fault → Option Fault
call_fault known (Some f) = Some f
call_fault false None = Some fault.UnknownName
call_fault true None = None

abbrev pub session_fault : Session → Option Fault
session_fault s = asker_fault s.is_open (is_some s.principal) (in_txn s.txn)

-- CREATE CLOSURE, which is refused for this, if at all
abbrev pub creates_by : World → ℕ → Closure → Option Fault → Turn
creates_by w n c (Some f) = refuses_only w n f
creates_by w n c None = record { steps = []; told = tell n reply.Done; seats = w.seats; greetings = w.greetings; closures = w.closures ++ c ∷ [] }

-- CALL of a closure, which is refused for this, if at all
abbrev pub calls_by : Speech → World → ℕ → List ℕ → Closure → Option Fault → Turn
calls_by x w n label c (Some f) = refuses_only w n f
calls_by x w n label c None = record {
  steps = call_steps x w.state label c;
  told = tell n (called x w.state label c).told;
  seats = w.seats;
  greetings = w.greetings;
  closures = w.closures;
}

-- the closure, where there is one
abbrev pub or_none : Option Closure → Closure
or_none None = record { name = []; owner = nobody; statements = [] }
or_none (Some c) = c

abbrev pub asks_form : Speech → World → ℕ → List ℕ → ClosureLine → Turn
asks_form x w n line plain = asks_plain x w n line
asks_form x w n line (faulty f) = refuses_only w n (if (seated w n).is_open then f else fault.NoSession)
asks_form x w n line (creates name statements) =
    creates_by w n (record { name = name; owner = greeting_in w.greetings n; statements = statements })
    (create_fault (is_empty (seated w n).label) (is_some (closure_named w.closures name)) (session_fault (seated w n)))
asks_form x w n line (calls name) =
    calls_by x w n (seated w n).label (or_none (closure_named w.closures name))
    (call_fault (is_some (closure_named w.closures name)) (session_fault (seated w n)))

-- a step of the script
abbrev pub turn : Speech → World → Step → Turn
turn x w opens = record {
  steps = opens ∷ [];
  told = tell (length w.seats + 1) reply.Opened;
  seats = w.seats ++ (length w.state.sessions + 1) ∷ [];
  greetings = w.greetings;
  closures = w.closures;
}
turn x w (asks n line) = asks_form x w n line (x.form line)
turn x w (refused n) = refuses_only w n fault.OutOfMemory
turn x w long = refuses_only w 0 fault.TooLong
turn x w stray = refuses_only w 0 (fault.Syntax 0)
turn x w (leaves n) = record { steps = []; told = []; seats = w.seats; greetings = w.greetings; closures = w.closures }

-- the world after what a step came to
abbrev pub after_turn : Speech → World → Turn → World
after_turn x w t = record { state = run x.read w.state t.steps; seats = t.seats; greetings = t.greetings; closures = t.closures }

abbrev pub next_world : Speech → World → Step → World
next_world x w step = after_turn x w (turn x w step)

-- the machine's steps that a script stands for
abbrev pub expanded : Speech → World → List Step → List Step
expanded x w [] = []
expanded x w (step ∷ steps) = (turn x w step).steps ++ expanded x (next_world x w step) steps

-- what a script is told
abbrev pub closure_replies : Speech → World → List Step → List Told
closure_replies x w [] = []
closure_replies x w (step ∷ steps) = (turn x w step).told ++ closure_replies x (next_world x w step) steps
