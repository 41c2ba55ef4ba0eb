-- What a request of a session outside a transaction comes to.
use Rattle.std.specs.Prelude.{◌≡◌, ◌⊎◌, ℕ, Bool, List, Option, None, Result, Ok, Err, if◌then◌else◌}
use Rattle.ifdb_row.specs.declared.row.Row.{Row}
use Rattle.ifdb_syntax.specs.declared.request.Request.{Request}
use Rattle.ifdb_wire.specs.declared.fault.Fault.{Fault}
use Rattle.ifdb_wire.specs.declared.fault.Fault.TheVariants as fault
use Rattle.ifdb_wire.specs.declared.reply.Reply.{Reply}
use Rattle.ifdb_wire.specs.Text.{IsUnbounded}
use Rattle.ifdb_wire.specs.declared.reply.Reply.TheVariants as reply
use Rattle.ifdb_model.specs.Log.{Entry, commits}
use Rattle.ifdb_model.specs.Writes.{Written}
use Rattle.ifdb_model.specs.Step.{Outcome, adds, refuses, form_of, answered_as}
use Rattle.ifdb_snapshot.specs.Writing.{orphans}
use Rattle.ifdb_db.specs.Desk.{Desk, with_entry, settled}
use Rattle.ifdb_db.specs.Client.{Standing, standing}
use Rattle.ifdb_db.specs.Inside.{session_of}

-- what a request of an open session without a transaction comes to
abbrev pub outside : Desk → Standing → Request → Outcome
outside d who r = answered_as d.count d.seen None (session_of who None) who.principal r (form_of r)

-- whatever the ceiling is, it is answered; the session stays as it is, and the desk takes what is added
pub record IsAdded (asker : ℕ) (l : List ℕ) (r : Request) (x y : Desk) (told : Reply) : Type 0 where
  pub added : Option Entry
  pub outcome : (c : Option (List ℕ)) → outside x (standing asker c l) r ≡ record { session = session_of (standing asker c l) None; added = added; reply = told }
  pub desk : y ≡ settled (with_entry x added)
  pub bounded : IsUnbounded told → ⊥

-- whatever the ceiling is, it is refused, or there was no memory, and nothing changed
pub record IsNotAdded (asker : ℕ) (l : List ℕ) (r : Request) (x y : Desk) (f : Fault) : Type 0 where
  pub cause : (f ≡ fault.OutOfMemory) ⊎ ((c : Option (List ℕ)) → outside x (standing asker c l) r ≡ refuses (session_of (standing asker c l) None) f)
  pub desk : y ≡ x

-- the principal's request at the label l took the desk x to y
abbrev pub IsPublished : ℕ → List ℕ → Request → Desk → Desk → Result Reply Fault → Type 0
IsPublished asker l r x y (Ok told) = IsAdded asker l r x y told
IsPublished asker l r x y (Err f) = IsNotAdded asker l r x y f

-- whatever the ceiling is, what it writes is a commit of its own, or it is refused, or there was no memory
abbrev pub Writes : ℕ → List ℕ → Request → Desk → Result Written Fault → Type 0
Writes asker l r x (Ok w) = (c : Option (List ℕ)) → outside x (standing asker c l) r ≡ adds (session_of (standing asker c l) None) (commits w.writes) (reply.Count w.count)
Writes asker l r x (Err f) = (f ≡ fault.OutOfMemory) ⊎ ((c : Option (List ℕ)) → outside x (standing asker c l) r ≡ refuses (session_of (standing asker c l) None) f)

-- what is written, unless it is a DELETE that leaves a row without a parent
abbrev pub unless_orphaned : Bool → List Row → Result Written Fault → Result Written Fault
unless_orphaned deleting rows (Err f) = Err f
unless_orphaned deleting rows (Ok w) = if orphans deleting rows w.writes then Err fault.StillReferenced else Ok w
