-- Sessions with their transactions, and what they see.
use Rattle.std.specs.Prelude.{◌≡◌, ℕ, Bool, true, false, List, [], Option, Some, None}
use Rattle.ifdb_row.specs.declared.write.Write.{Write}
use Rattle.ifdb_row.specs.Content.{after}
use Rattle.ifdb_model.specs.Session.{Txn, Session, Seen}

-- an open transaction: the length of the log at its BEGIN, its own writes, and what all saw then
pub record Open : Type 0 where
  pub begin : ℕ
  pub own : List Write
  pub base : Seen

-- a session, with its transaction if one is open
pub record Client : Type 0 where
  pub is_open : Bool
  pub principal : Option ℕ
  pub ceiling : Option (List ℕ)
  pub label : List ℕ
  pub txn : Option Open

-- who asks in a session that said HELLO, up to which label it may raise its own, and its label
pub record Standing : Type 0 where
  pub principal : ℕ
  pub ceiling : Option (List ℕ)
  pub label : List ℕ

abbrev pub standing : ℕ → Option (List ℕ) → List ℕ → Standing
standing principal ceiling label = record { principal = principal; ceiling = ceiling; label = label }

-- the same at another label
abbrev pub at_label : Standing → List ℕ → Standing
at_label who label = record who { label = label }

-- a client that was just opened
abbrev pub new_client : Client
new_client = record { is_open = true; principal = None; ceiling = None; label = []; txn = None }

-- a client that has left
abbrev pub left_client : Client → Client
left_client c = record c { is_open = false; txn = None }

-- an open client that stands so
abbrev pub client_of : Standing → Option Open → Client
client_of who txn = record { is_open = true; principal = Some who.principal; ceiling = who.ceiling; label = who.label; txn = txn }

-- the machine's transaction
abbrev pub txn_at : Option Open → Option Txn
txn_at None = None
txn_at (Some x) = Some (record { begin = x.begin; own = x.own })

-- the machine's session
abbrev pub session_at : Client → Session
session_at c = record { is_open = c.is_open; principal = c.principal; ceiling = c.ceiling; label = c.label; txn = txn_at c.txn }

-- what is seen: in a transaction what all saw at its BEGIN, with its own writes; outside it what all see now
abbrev pub seen_by : Seen → Option Open → Seen
seen_by now None = now
seen_by now (Some x) = record { public = x.base.public; rows = after x.base.rows x.own }

-- an open transaction goes on over what it began with; one that begins does so with what all see now
abbrev pub IsBased : Seen → Option Open → Option Open → Type 0
IsBased now x None = Unit {0}
IsBased now None (Some y) = y.base ≡ now
IsBased now (Some x) (Some y) = y.base ≡ x.base
