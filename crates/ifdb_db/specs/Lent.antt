-- A session in a transaction that is lent: whoever has it asks its lines of it alone, and gives it back with what they came to.
use Rattle.std.specs.Prelude.{◌≡◌, ◌⊎◌, ◌-◌, ℕ, true, List, length, slice_set, Option, Some, None, Result, Ok, Err}
use Rattle.std.specs.Option.{is_some}
use Rattle.ifdb_label.specs.Tags.{AreMade}
use Rattle.ifdb_syntax.specs.declared.request.Request.{Request}
use Rattle.ifdb_wire.specs.declared.fault.Fault.{Fault}
use Rattle.ifdb_wire.specs.declared.fault.Fault.TheVariants as fault
use Rattle.ifdb_wire.specs.declared.reply.Reply.{Reply}
use Rattle.ifdb_wire.specs.declared.reply.Reply.TheVariants as reply
use Rattle.ifdb_wire.specs.Text.{IsUnbounded}
use Rattle.ifdb_model.specs.Log.{Entry}
use Rattle.ifdb_model.specs.Step.{form_of, tells, ask}
use Rattle.ifdb_db.specs.Client.{Open, Client, session_at}
use Rattle.ifdb_db.specs.Inside.{is_end}
use Rattle.ifdb_db.specs.Reading.{read_line}
use Rattle.ifdb_db.specs.Room.{Hall, IsOver, client_in}

-- a label is of tags that were made at the BEGIN of the transaction that is open
abbrev pub IsLabelInside : List ℕ → Option Open → Type 0
IsLabelInside label None = ⊥
IsLabelInside label (Some x) = AreMade (length x.base.public.tags) label

-- an open session that said HELLO and is in a transaction
pub record IsLent (c : Client) : Type 0 where
  pub is_open : c.is_open ≡ true
  pub greeted : is_some c.principal ≡ true
  pub label : IsLabelInside c.label c.txn

-- a transaction goes on, over what it began with
abbrev pub GoesOn : Option Open → Option Open → Type 0
GoesOn (Some x) (Some y) = (y.begin ≡ x.begin) × (y.base ≡ x.base)
GoesOn _ _ = ⊥

-- wherever the log is by now, a session c answers a line so from itself alone, and comes to e
pub record Answers (line : List ℕ) (c e : Client) (r : Reply) : Type 0 where
  pub told : (log : List Entry) → IsOver log c.txn → ask read_line log (session_at c) line ≡ tells (session_at e) r
  pub goes_on : GoesOn c.txn e.txn
  pub lent : IsLent e
  pub still : IsUnbounded r → e ≡ c

-- the line ends a transaction
abbrev pub EndsTransaction : List ℕ → Type 0
EndsTransaction line = (r : Request) × (read_line line ≡ Ok r) × (is_end (form_of r) ≡ true)

-- the line was answered so; or it ends the transaction, or there was no memory, and the session is as before
abbrev pub IsAnsweredAlone : {X : Type 0} → List ℕ → Client → Client → Result (Option Reply) X → Type 0
IsAnsweredAlone line c e (Ok (Some r)) = Answers line c e r
IsAnsweredAlone line c e (Ok None) = (e ≡ c) × EndsTransaction line
IsAnsweredAlone line c e (Err x) = e ≡ c

-- the same, where a refusal is an error too
abbrev pub IsFoundAlone : List ℕ → Client → Client → Result (Option Reply) Fault → Type 0
IsFoundAlone line c e (Ok (Some r)) = Answers line c e r
IsFoundAlone line c e (Ok None) = (e ≡ c) × EndsTransaction line
IsFoundAlone line c e (Err f) = (e ≡ c) × ((f ≡ fault.OutOfMemory) ⊎ Answers line c c (reply.Refused f))

-- ---- in a room

-- the hall with a client in its place
abbrev pub with_client : Hall → ℕ → Client → Hall
with_client h n c = record h { clients = slice_set h.clients (n - 1) c }

-- a client may come back to its place: it is open, and its transaction is the one that is open there, gone on
pub record MayComeBack (h : Hall) (n : ℕ) (c : Client) : Type 0 where
  pub is_open : (client_in h n).is_open ≡ true
  pub goes_on : GoesOn (client_in h n).txn c.txn
  pub lent : IsLent c
