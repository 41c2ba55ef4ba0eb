-- The sessions of a room by number, of which those that are over may be forgotten.
use Rattle.std.specs.Prelude.{◌≡◌, ℕ, zero, suc, ◌+◌, ◌-◌, ◌<◌, false, List, [], ◌∷◌, Option, None, IfSome, length, map, nat_lt, slice_index_or, if◌then◌else◌}
use Rattle.std.specs.Option.{unwrap_or}
use Rattle.std.specs.declared.snapshot.Snapshot.{Snapshot}
use Rattle.ifdb_db.specs.Client.{Client}
use Rattle.ifdb_db.specs.Room.{no_client}

-- the client of a number among those that were opened, as `client_in` is that of a room
abbrev pub client_at : List Client → ℕ → Client
client_at clients n = if nat_lt 0 n then slice_index_or clients (n - 1) no_client else no_client

-- a session that is over is closed, and in no transaction
pub record IsSessionOver (c : Client) : Type 0 where
  pub closed : c.is_open ≡ false
  pub txn : c.txn ≡ None

-- some clients in their order: each as it is found, or else as it was when it was over
abbrev pub clients_of : (ℕ → Option Client) → List Client → List Client
clients_of found [] = []
clients_of found (was ∷ over) = unwrap_or (found zero) was ∷ clients_of (λ k. found (suc k)) over

-- the same, where they are found by their number from 1
abbrev pub by_number : (ℕ → Option Client) → List Client → List Client
by_number found over = clients_of (λ k. found (k + 1)) over

-- what snapshots are of
abbrev pub shown_by : List (Snapshot Client) → List Client
shown_by over = map (λ (x : Snapshot Client). x.value) over

-- those that are found by number were opened, and all others were over
pub record AreKept (found : ℕ → Option Client) (over : List Client) : Type 0 where
  pub from_1 : found 0 ≡ None
  pub opened : (k : ℕ) → IfSome (found (k + 1)) (λ _. k < length over)
  pub forgotten : (k : ℕ) → found (k + 1) ≡ None → IsSessionOver (slice_index_or over k no_client)
