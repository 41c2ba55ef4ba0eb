-- Views of passes, and what is said of all views of a table.
use Rattle.std.specs.Prelude.{◌≡◌, ◌≢◌, ℕ, ◌+◌, List, [], ◌∷◌}
use mathlib.Core.Option.{some}
use lib.ListN.{get_elem?}
use Rattle.atomic_table.specs.Seated.{TableId}
use Rattle.atomic_table.specs.declared.badge.Badge.{Badge}
use Rattle.ifdb_turn.specs.declared.view.TableIdentity.{TableIdentity}
use Rattle.ifdb_turn.specs.declared.view.Stage.{Stage}
use Rattle.ifdb_turn.specs.declared.view.Stage.TheVariants.{Opening, Idle, Waiting, InTurn}
use Rattle.ifdb_turn.specs.declared.view.PassView.{PassView}

-- the shares of all passes together, 2 ^ 32
abbrev pub all_shares : ℕ
all_shares = 4294967296

-- stands where no table is known yet
abbrev pub no_table : TableIdentity
no_table = record {
  id = record {
    words = 0;
    slots = 0;
    views_name = 0;
    atom = 0;
    block = 0;
    offset = 0;
    slot_names = [];
  };
}

-- the view of a seat that was just made, and of one that is spent
abbrev pub newcomer : {E : Type 0} → PassView E
newcomer = record { table = no_table; history = []; earlier = []; places = []; shares = 0; stage = Idle }

-- the view of the table's first seat
abbrev pub opener : {E : Type 0} → PassView E
opener = record { table = no_table; history = []; earlier = []; places = []; shares = 0; stage = Opening }

module _ {V : Type 0} where
  -- a number of each view, added up
  abbrev pub total : (V → ℕ) → List V → ℕ
  total f [] = 0
  total f (v ∷ vs) = f v + total f vs

  -- a fact of each view
  abbrev pub Each : List V → (V → Type 0) → Type 0
  Each views P = (j : ℕ) (v : V) → get_elem? views j ≡ some v → P v

  -- a fact of some view
  abbrev pub Somewhere : List V → (V → Type 0) → Type 0
  Somewhere views P = (j : ℕ) × (v : V) × (get_elem? views j ≡ some v) × P v

  -- a fact of each view but the one at i
  abbrev pub Others : List V → ℕ → (V → Type 0) → Type 0
  Others views i P = (j : ℕ) (v : V) → j ≢ i → get_elem? views j ≡ some v → P v

  -- a fact of at most one view
  abbrev pub AtMostOne : List V → (V → Type 0) → Type 0
  AtMostOne views P =
      (i j : ℕ) (v w : V) → get_elem? views i ≡ some v → get_elem? views j ≡ some w → P v → P w → i ≡ j

module _ {E : Type 0} where
  -- the pass has the ticket n
  abbrev pub HasTicket : ℕ → Stage E → Type 0
  HasTicket n Opening = ⊥
  HasTicket n Idle = ⊥
  HasTicket n (Waiting k) = k ≡ n
  HasTicket n (InTurn k appended whole) = k ≡ n

  -- the pass has the turn, with the ticket n
  abbrev pub HasTurn : ℕ → Stage E → Type 0
  HasTurn n Opening = ⊥
  HasTurn n Idle = ⊥
  HasTurn n (Waiting k) = ⊥
  HasTurn n (InTurn k appended whole) = k ≡ n

  -- the pass doesn't have the turn
  abbrev pub IsOutOfTurn : Stage E → Type 0
  IsOutOfTurn Opening = Unit {0}
  IsOutOfTurn Idle = Unit {0}
  IsOutOfTurn (Waiting k) = Unit {0}
  IsOutOfTurn (InTurn k appended whole) = ⊥

  -- the badge is a pass of this table without a share, which has seen the whole history
  abbrev pub IsWitness : TableId → List E → Badge (PassView E) → Type 0
  IsWitness id log witness = (witness.table_id ≡ id) × ((v : PassView E) × (witness.views ≡ v ∷ [])
      × (v.history ≡ log) × (v.places ≡ []) × (v.shares ≡ 0) × (v.stage ≡ Idle))
