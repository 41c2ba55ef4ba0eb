-- A SELECT outside a transaction that is answered away from the room, from what all saw at its turn.
use Rattle.std.specs.Prelude.{◌≡◌, ◌⊎◌, ℕ, List, Option, None, Result, Ok, Err}
use Rattle.ifdb_syntax.specs.declared.request.Request.{Request}
use Rattle.ifdb_wire.specs.declared.fault.Fault.{Fault}
use Rattle.ifdb_wire.specs.declared.fault.Fault.TheVariants as fault
use Rattle.ifdb_wire.specs.declared.reply.Reply.{Reply}
use Rattle.ifdb_wire.specs.declared.reply.Reply.TheVariants as reply
use Rattle.ifdb_model.specs.Log.{Entry}
use Rattle.ifdb_model.specs.Session.{Seen, seen_in}
use Rattle.ifdb_model.specs.Step.{form_of, looks, tells, ask}
use Rattle.ifdb_db.specs.Client.{Client, standing, client_of, session_at}
use Rattle.ifdb_db.specs.Reading.{read_line}
use Rattle.ifdb_db.specs.Room.{Hall, client_in}

-- who asks, at which label, and what all see
pub record Sight : Type 0 where
  pub asker : ℕ
  pub label : List ℕ
  pub seen : Seen

-- a line that is asked over a sight
pub record Looking : Type 0 where
  pub sight : Sight
  pub line : List ℕ

-- a client whose sight it is: open, of that principal, and outside a transaction, under this ceiling
abbrev pub client_of_sight : Option (List ℕ) → Sight → Client
client_of_sight ceiling s = client_of (standing s.asker ceiling s.label) None

-- it is that of a client of the hall
pub record IsSightOf (h : Hall) (n : ℕ) (s : Sight) : Type 0 where
  pub client : client_in h n ≡ client_of_sight (client_in h n).ceiling s
  pub seen : s.seen ≡ h.desk.seen

-- the line is a SELECT
abbrev pub IsSelect : List ℕ → Type 0
IsSelect line = (r : Request) × (read_line line ≡ Ok r) × (form_of r ≡ looks)

-- the line of a client of the hall is a SELECT, and is asked over the client's sight
pub record IsLookOf (h : Hall) (n : ℕ) (line : List ℕ) (x : Looking) : Type 0 where
  pub asked : x.line ≡ line
  pub sight : IsSightOf h n x.sight
  pub select : IsSelect line

-- whatever the log is that leaves this sight, and whatever the ceiling, the machine tells this, and nothing changes
abbrev pub Shows : Looking → Reply → Type 0
Shows x r = (log : List Entry) (c : Option (List ℕ)) → seen_in log None ≡ x.sight.seen
    → ask read_line log (session_at (client_of_sight c x.sight)) x.line ≡ tells (session_at (client_of_sight c x.sight)) r

-- so it is told; or it is refused so, or there was no memory
abbrev pub IsShown : Looking → Result Reply Fault → Type 0
IsShown x (Ok r) = Shows x r
IsShown x (Err f) = (f ≡ fault.OutOfMemory) ⊎ Shows x (reply.Refused f)
