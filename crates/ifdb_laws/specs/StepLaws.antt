-- What the laws of single lines say, for every reading of lines.
use Rattle.std.specs.Prelude.{◌≡◌, ℕ, ◌<◌, Bool, true, false, ◌&&◌, not, List, [], take, Option, Some, None, Result, Ok, Err}
use Rattle.std.specs.Option.{is_some}
use Rattle.ifdb_syntax.specs.declared.request.Request.{Request}
use Rattle.ifdb_syntax.specs.declared.request.Request.TheVariants as request
use Rattle.ifdb_wire.specs.declared.fault.Fault.{Fault}
use Rattle.ifdb_wire.specs.declared.fault.Fault.TheVariants as fault
use Rattle.ifdb_wire.specs.declared.reply.Reply.TheVariants as reply
use Rattle.ifdb_row.specs.declared.slot.Slot.{Slot}
use Rattle.ifdb_row.specs.Verdict.{written_by, verdict, last_stamp}
use Rattle.ifdb_model.specs.Log.{Entry, all_tags, content_of, commits_since}
use Rattle.ifdb_model.specs.Session.{Txn, Session}
use Rattle.ifdb_model.specs.Step.{Reader, Form, ends, form_of, refuses, judged, ask}
use Rattle.ifdb_model.specs.Run.{State, session_of, asks, outcome_of, next}
use Rattle.ifdb_model.specs.Output.{is_memory, reads_memory, told_of}
use Rattle.ifdb_laws.specs.Scripts.{none_reads_memory}

-- the form is COMMIT
abbrev pub is_ending : Form → Bool
is_ending ends = true
is_ending _ = false

-- the line is read as COMMIT
abbrev pub is_commit : Result Request Fault → Bool
is_commit (Err f) = false
is_commit (Ok r) = is_ending (form_of r)

-- In a transaction each line but COMMIT is answered by the changes before its BEGIN, its own writes and its session alone:
-- alike over any two logs that begin with these changes.
abbrev pub TransactionsAreFrozen : Type 0
TransactionsAreFrozen = (read : Reader) (log other : List Entry) (s : Session) (asker : ℕ) (x : Txn) (line : List ℕ)
    → s.principal ≡ Some asker → s.txn ≡ Some x → take x.begin log ≡ take x.begin other → is_commit (read line) ≡ false
    → ask read log s line ≡ ask read other s line

-- a refused line, but for COMMIT, leaves its session as it was and adds nothing
abbrev pub RefusalsChangeNothing : Type 0
RefusalsChangeNothing = (read : Reader) (log : List Entry) (s : Session) (line : List ℕ) (f : Fault)
    → is_commit (read line) ≡ false → (ask read log s line).reply ≡ reply.Refused f → ask read log s line ≡ refuses s f

-- an open session is closed at a line by BYE alone
abbrev pub ByeAloneCloses : Type 0
ByeAloneCloses = (read : Reader) (log : List Entry) (s : Session) (line : List ℕ)
    → s.is_open ≡ true → (ask read log s line).session.is_open ≡ false → read line ≡ Ok request.Bye

-- a COMMIT of a transaction that is refused ends it, and changes nothing else
abbrev pub RefusedCommitsEnd : Type 0
RefusedCommitsEnd = (read : Reader) (log : List Entry) (s : Session) (asker : ℕ) (x : Txn) (line : List ℕ) (f : Fault)
    → s.principal ≡ Some asker → s.txn ≡ Some x → is_commit (read line) ≡ true → (ask read log s line).reply ≡ reply.Refused f
    → ask read log s line ≡ refuses (record s { txn = None }) f

-- why a COMMIT of the session isn't judged, if it isn't: nobody has said HELLO, or no transaction is open
abbrev pub unjudged : Option ℕ → Option Txn → Option Fault
unjudged None x = Some fault.NotHello
unjudged (Some asker) None = Some fault.NoTransaction
unjudged (Some asker) (Some x) = None

-- a COMMIT that isn't judged is refused for that, leaves its session as it was and adds nothing
abbrev pub UnjudgedCommitsChangeNothing : Type 0
UnjudgedCommitsChangeNothing = (read : Reader) (log : List Entry) (s : Session) (line : List ℕ) (f : Fault)
    → is_commit (read line) ≡ true → unjudged s.principal s.txn ≡ Some f → ask read log s line ≡ refuses s f

-- so the state after a refused step is the state before it, but for a COMMIT that is judged
abbrev pub RefusedStepsChangeNothing : Type 0
RefusedStepsChangeNothing = (read : Reader) (st : State) (n : ℕ) (line : List ℕ) (f : Fault)
    → let s = session_of st n in (is_commit (read line) && not (is_some (unjudged s.principal s.txn))) ≡ false
    → (outcome_of read st n line).reply ≡ reply.Refused f → next read st (asks n line) ≡ st

-- a COMMIT is judged over the content, with all tags, by the commits since its BEGIN, at the label of now
abbrev pub CommitsAreJudged : Type 0
CommitsAreJudged = (log : List Entry) (s : Session) (x : Txn)
    → judged log s x ≡ verdict (all_tags log) (content_of log) (written_by (commits_since x.begin log)) x.own s.label

-- the stamp of a slot that was written since a BEGIN is above the BEGIN
abbrev pub StampsAreAbove : Type 0
StampsAreAbove = (log : List Entry) (begin stamp : ℕ) (p : Slot) → last_stamp (commits_since begin log) p ≡ Some stamp → begin < stamp

-- it is want of memory
abbrev pub lacks_memory : {X : Type 0} → Result X Fault → Bool
lacks_memory (Err f) = is_memory f
lacks_memory (Ok x) = false

-- where no line is read as want of memory, no line is told it: error 20 comes of refused memory alone
abbrev pub MemoryIsNeverTold : Type 0
MemoryIsNeverTold = (read : Reader) → ((line : List ℕ) → lacks_memory (read line) ≡ false)
    → (log : List Entry) (s : Session) (line : List ℕ) → reads_memory (ask read log s line).reply ≡ false

-- then no script whose steps all have their memory is told it
abbrev pub ScriptsAreSpared : Type 0
ScriptsAreSpared = (read : Reader) → ((line : List ℕ) → lacks_memory (read line) ≡ false)
    → (input : List ℕ) → none_reads_memory (told_of read input []) ≡ true
