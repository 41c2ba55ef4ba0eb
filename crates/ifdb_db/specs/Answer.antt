-- What a client is answered, over what all see, and what its line changes: the machine's own answers, over what the database
-- keeps in place of the log.
use Rattle.std.specs.Prelude.{◌≡◌, ◌⊎◌, ℕ, List, [], Option, Some, None, Result, Ok, Err}
use Rattle.ifdb_row.specs.Verdict.{verdict, written_by}
use Rattle.ifdb_store.specs.Kept.{trimmed}
use Rattle.ifdb_syntax.specs.declared.request.Request.{Request}
use Rattle.ifdb_wire.specs.declared.fault.Fault.{Fault}
use Rattle.ifdb_wire.specs.declared.fault.Fault.TheVariants as fault
use Rattle.ifdb_wire.specs.declared.reply.Reply.{Reply}
use Rattle.ifdb_wire.specs.Text.{IsUnbounded}
use Rattle.ifdb_catalog.specs.Public.{tags_of}
use Rattle.ifdb_model.specs.Session.{Session}
use Rattle.ifdb_model.specs.Step.{Outcome, refuses, form_of, verdict_fault, ended, answered_as, answered_new}
use Rattle.ifdb_db.specs.Client.{Open, Client, txn_at, session_at, seen_by, IsBased}
use Rattle.ifdb_db.specs.Desk.{Desk, moved}

-- the refusal of a COMMIT of the transaction at a label, if it is one
abbrev pub fault_of : Desk → List ℕ → Option Open → Option Fault
fault_of d label None = None
fault_of d label (Some x) = verdict_fault (verdict (tags_of d.seen.public) d.seen.rows (written_by (trimmed x.begin d.commits)) x.own label)

-- the refusal of a COMMIT of a client, if it is one
abbrev pub fault_at : Desk → Client → Option Fault
fault_at d c = fault_of d c.label c.txn

-- COMMIT of a client
abbrev pub commits_by : Desk → Client → Outcome
commits_by d c = ended (session_at c) (txn_at c.txn) (fault_at d c)

-- a transaction that begins now
abbrev pub begun_at : Desk → Open
begun_at d = record { begin = d.count; own = []; base = d.seen }

-- a request of a client
abbrev pub answered_by : Desk → Client → Option ℕ → Request → Outcome
answered_by d c None r = answered_new d.seen.public (session_at c) (form_of r)
answered_by d c (Some asker) r = answered_as d.count (seen_by d.seen c.txn) (fault_at d c) (session_at c) asker r (form_of r)

-- a line that was read
abbrev pub answered : Desk → Client → Result Request Fault → Outcome
answered d c (Err f) = refuses (session_at c) f
answered d c (Ok r) = answered_by d c c.principal r

-- the fault is want of memory, or the one that the session is refused with
abbrev pub IsRefusal : Outcome → Session → Fault → Type 0
IsRefusal o s f = (f ≡ fault.OutOfMemory) ⊎ (o ≡ refuses s f)

-- the reply, the session and the desk are those of the outcome, and the transaction is based on what it was
pub record IsDone (o : Outcome) (c e : Client) (x y : Desk) (r : Reply) : Type 0 where
  pub told : r ≡ o.reply
  pub session : session_at e ≡ o.session
  pub based : IsBased x.seen c.txn e.txn
  pub desk : y ≡ moved (session_at c) o x

-- the session is refused, or there was no memory, and all is as before
pub record IsUndone (o : Outcome) (c e : Client) (x y : Desk) (f : Fault) : Type 0 where
  pub cause : IsRefusal o (session_at c) f
  pub client : e ≡ c
  pub desk : y ≡ x

-- a client c at a desk x came to e and y, and was told this. An error is a refusal, which changes nothing.
abbrev pub IsAnswered : Outcome → Client → Client → Desk → Desk → Result Reply Fault → Type 0
IsAnswered o c e x y (Ok r) = IsDone o c e x y r
IsAnswered o c e x y (Err f) = IsUndone o c e x y f

-- a reply of any length comes with no change
abbrev pub IsStill : Client → Client → Desk → Desk → Result Reply Fault → Type 0
IsStill c e x y (Ok r) = IsUnbounded r → (y ≡ x) × (e ≡ c)
IsStill c e x y (Err f) = Unit {0}
