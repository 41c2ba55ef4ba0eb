-- What a request of an open session comes to, by what the session sees: inside a transaction and outside.
use Rattle.std.specs.Prelude.{◌≡◌, ◌⊎◌, ℕ, Bool, true, false, List, Option, Some, Result, Ok, Err}
use Rattle.ifdb_row.specs.Content.{after}
use Rattle.ifdb_row.specs.Writes.{merged}
use Rattle.ifdb_syntax.specs.declared.request.Request.{Request}
use Rattle.ifdb_wire.specs.declared.fault.Fault.{Fault}
use Rattle.ifdb_wire.specs.declared.fault.Fault.TheVariants as fault
use Rattle.ifdb_wire.specs.declared.reply.Reply.{Reply}
use Rattle.ifdb_wire.specs.declared.reply.Reply.TheVariants as reply
use Rattle.ifdb_wire.specs.Text.{IsUnbounded}
use Rattle.ifdb_model.specs.Session.{Session, Seen, Txn}
use Rattle.ifdb_model.specs.Writes.{Written}
use Rattle.ifdb_model.specs.Step.{Form, publishes, begins, ends, rolls_back, leaves_us, form_of, Outcome, tells, refuses, answered_as}
use Rattle.ifdb_db.specs.declared.told.Told.{Told}
use Rattle.ifdb_db.specs.declared.told.Told.TheVariants.{Replies, Commits, RollsBack, Leaves}
use Rattle.ifdb_db.specs.Client.{Open, Standing, standing, at_label, txn_at}

-- an open session that stands so, with its transaction, if one is open
abbrev pub session_of : Standing → Option Txn → Session
session_of who t = record { is_open = true; principal = Some who.principal; ceiling = who.ceiling; label = who.label; txn = t }

-- ---- by what is seen alone, inside a transaction and outside

-- over what is seen the request is told this, and the session comes to the label m
abbrev pub Says : Seen → Standing → List ℕ → Request → Reply → Type 0
Says x who m r reply = (n : ℕ) (refusal : Option Fault) (t : Option Txn)
    → answered_as n x refusal (session_of who t) who.principal r (form_of r) ≡ tells (session_of (at_label who m) t) reply

-- the request is refused so, or there was no memory
abbrev pub Denies : Seen → Standing → Request → Fault → Type 0
Denies x who r f = (f ≡ fault.OutOfMemory) ⊎ ((n : ℕ) (refusal : Option Fault) (t : Option Txn)
    → answered_as n x refusal (session_of who t) who.principal r (form_of r) ≡ refuses (session_of who t) f)

-- over what is seen the request is told this, and the session comes to the label m; or it is refused, or there was no memory,
-- and the label is as before
abbrev pub IsSaid : Seen → Standing → List ℕ → Request → Result Reply Fault → Type 0
IsSaid x who m r (Ok reply) = Says x who m r reply × (IsUnbounded reply → m ≡ who.label)
IsSaid x who m r (Err f) = Denies x who r f × (m ≡ who.label)

-- at the label l the request is told this, or refused so, or there was no memory, whatever the ceiling is, and the label stays
abbrev pub IsSaidAlike : Seen → ℕ → List ℕ → Request → Result Reply Fault → Type 0
IsSaidAlike x asker l r (Ok reply) = (c : Option (List ℕ)) → Says x (standing asker c l) l r reply
IsSaidAlike x asker l r (Err f) = (f ≡ fault.OutOfMemory) ⊎ ((c : Option (List ℕ)) (n : ℕ) (refusal : Option Fault) (t : Option Txn)
    → answered_as n x refusal (session_of (standing asker c l) t) asker r (form_of r) ≡ refuses (session_of (standing asker c l) t) f)

-- ---- inside a transaction

-- what the transaction sees
abbrev pub seen_of : Open → Seen
seen_of x = record { public = x.base.public; rows = after x.base.rows x.own }

-- the form ends the transaction
abbrev pub is_end : Form → Bool
is_end ends = true
is_end rolls_back = true
is_end leaves_us = true
is_end _ = false

-- the form has no place in a transaction
abbrev pub is_outer : Form → Bool
is_outer publishes = true
is_outer begins = true
is_outer _ = false

-- a request that doesn't end the transaction, wherever the log is by now
abbrev pub Inside : Standing → Open → Request → Outcome → Type 0
Inside who x r o = (n : ℕ) (refusal : Option Fault) → answered_as n (seen_of x) refusal (session_of who (txn_at (Some x))) who.principal r (form_of r) ≡ o

-- whatever the ceiling is, what the request writes joins the transaction's own writes, or it is refused, or there was no memory
abbrev pub Finds : ℕ → List ℕ → Open → Request → Result Written Fault → Type 0
Finds asker l x r (Ok w) = (c : Option (List ℕ)) → Inside (standing asker c l) x r
    (tells (session_of (standing asker c l) (txn_at (Some (record x { own = merged x.own w.writes })))) (reply.Count w.count))
Finds asker l x r (Err f) = (f ≡ fault.OutOfMemory)
    ⊎ ((c : Option (List ℕ)) → Inside (standing asker c l) x r (refuses (session_of (standing asker c l) (txn_at (Some x))) f))

-- it is answered, and the transaction goes on over what it began with
pub record IsReplied (who : Standing) (m : List ℕ) (x y : Open) (r : Request) (reply : Reply) : Type 0 where
  pub goes_on : is_end (form_of r) ≡ false
  pub told : Inside who x r (tells (session_of (at_label who m) (txn_at (Some y))) reply)
  pub begin : y.begin ≡ x.begin
  pub base : y.base ≡ x.base
  pub still : IsUnbounded reply → (m ≡ who.label) × (y ≡ x)

-- it is left to the database, and nothing changed
pub record IsLeft (end : Form) (l m : List ℕ) (x y : Open) (r : Request) : Type 0 where
  pub form : form_of r ≡ end
  pub label : m ≡ l
  pub txn : y ≡ x

-- it is refused, or there was no memory, and nothing changed
pub record IsDenied (who : Standing) (m : List ℕ) (x y : Open) (r : Request) (f : Fault) : Type 0 where
  pub goes_on : is_end (form_of r) ≡ false
  pub cause : (f ≡ fault.OutOfMemory) ⊎ Inside who x r (refuses (session_of who (txn_at (Some x))) f)
  pub label : m ≡ who.label
  pub txn : y ≡ x

-- A session that stands so asks a request in the transaction x, and comes to the label m and to y.
abbrev pub IsTold : Standing → List ℕ → Open → Open → Request → Result Told Fault → Type 0
IsTold who m x y r (Ok (Replies reply)) = IsReplied who m x y r reply
IsTold who m x y r (Ok Commits) = IsLeft ends who.label m x y r
IsTold who m x y r (Ok RollsBack) = IsLeft rolls_back who.label m x y r
IsTold who m x y r (Ok Leaves) = IsLeft leaves_us who.label m x y r
IsTold who m x y r (Err f) = IsDenied who m x y r f
