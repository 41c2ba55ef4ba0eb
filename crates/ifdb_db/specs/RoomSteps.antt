-- What a step of the machine does to a room, and what a line of a session does.
use Rattle.std.specs.Prelude.{◌≡◌, ℕ, ◌-◌, true, List, slice_set, Option, Result, Ok, Err}
use Rattle.ifdb_wire.specs.declared.fault.Fault.{Fault}
use Rattle.ifdb_wire.specs.declared.reply.Reply.{Reply}
use Rattle.ifdb_wire.specs.Text.{IsUnbounded, reply_text}
use Rattle.ifdb_model.specs.Step.{bye}
use Rattle.ifdb_model.specs.Run.{State, Step, next, outcome_of}
use Rattle.ifdb_db.specs.Answer.{IsDone, IsRefusal}
use Rattle.ifdb_db.specs.Client.{Client, left_client, session_at}
use Rattle.ifdb_db.specs.Desk.{moved}
use Rattle.ifdb_db.specs.Reading.{read_line}
use Rattle.ifdb_db.specs.Room.{Hall, StandsFor, client_in, outcome_in}

-- ---- by the states that a room stands for

-- the room takes the step, whatever state it stood for
abbrev pub GoesBy : Hall → Hall → Step → Type 0
GoesBy h g x = (st : State) → StandsFor h st → StandsFor g (next read_line st x)

-- the reply to a line of a session
abbrev pub IsReplyTo : Hall → ℕ → List ℕ → Reply → Type 0
IsReplyTo h n line r = (st : State) → StandsFor h st → r ≡ (outcome_of read_line st n line).reply

-- the text of that reply: in a script told to a session of the number `shown`, on a connection without a number
abbrev pub IsReplyText : Hall → ℕ → List ℕ → Option ℕ → List ℕ → Type 0
IsReplyText h n line shown text = (st : State) → StandsFor h st → text ≡ reply_text shown (outcome_of read_line st n line).reply

-- ---- by what the room holds

-- an open client came to e, the hall to g, and was told this
pub record IsAsked (n : ℕ) (line : List ℕ) (h g : Hall) (r : Reply) : Type 0 where
  pub client : Client
  pub is_open : (client_in h n).is_open ≡ true
  pub done : IsDone (outcome_in h n line) (client_in h n) client h.desk g.desk r
  pub clients : g.clients ≡ slice_set h.clients (n - 1) client
  pub still : IsUnbounded r → g ≡ h

-- the line is refused, or there was no memory, and the hall is as before
pub record IsNotAsked (n : ℕ) (line : List ℕ) (h g : Hall) (f : Fault) : Type 0 where
  pub cause : IsRefusal (outcome_in h n line) (session_at (client_in h n)) f
  pub hall : g ≡ h

abbrev pub IsAskedIn : ℕ → List ℕ → Hall → Hall → Result Reply Fault → Type 0
IsAskedIn n line h g (Ok r) = IsAsked n line h g r
IsAskedIn n line h g (Err f) = IsNotAsked n line h g f

-- an open client left
pub record IsLeftBy (n : ℕ) (h g : Hall) : Type 0 where
  pub desk : g.desk ≡ moved (session_at (client_in h n)) (bye (session_at (client_in h n))) h.desk
  pub clients : g.clients ≡ slice_set h.clients (n - 1) (left_client (client_in h n))
