-- Words on the seat of a pass, for the calls inside this crate.
use Rattle.std.specs.Prelude.{◌≡◌, ◌⊎◌, ℕ, ◌<◌, Bool, false, List, [], ◌∷◌, length, Option, Some, None}
use Rattle.atomic_table.specs.Seated.{TableId}
use Rattle.atomic_table.specs.declared.shared.Seat.{Seat}
use Rattle.atomic_table.specs.declared.badge.Badge.{Badge}
use Rattle.ifdb_turn.specs.declared.view.Stage.TheVariants.{Idle, Waiting, InTurn}
use Rattle.ifdb_turn.specs.declared.view.PassView.{PassView}
use Rattle.ifdb_turn.specs.declared.view.Kept.{Kept}
use Rattle.ifdb_turn.specs.Views.{IsWitness}
use Rattle.ifdb_turn.specs.Places.{times}
use Rattle.ifdb_turn.specs.Kinds.{Begins, after_append}

-- the seat of a pass over objects X with entries E
abbrev pub SeatOf : Type 0 → Type 0 → Type 0
SeatOf X E = Seat (Option (Kept X E)) (PassView E)

module _ {X E : Type 0} where
  -- the same seat, later
  abbrev pub IsSameSeat : SeatOf X E → SeatOf X E → Type 0
  IsSameSeat s t = (t.table_id ≡ s.table_id) × (t.id ≡ s.id)

  -- the seat of a pass of this table, outside of a turn
  abbrev pub IsPassSeat : TableId → SeatOf X E → Type 0
  IsPassSeat id s =
      (s.table_id ≡ id) × (s.me.1 ≡ []) × (s.me.0.stage ≡ Idle) × (0 < s.me.0.shares) × (s.me.0.table.id ≡ id)

  -- the seat has a ticket n of this table, which isn't ticket 0, and waits for its turn
  abbrev pub IsWaitingSeat : TableId → ℕ → SeatOf X E → Type 0
  IsWaitingSeat id n s = (s.table_id ≡ id) × (s.me.1 ≡ []) × (s.me.0.stage ≡ Waiting n) × (0 < s.me.0.shares)

  -- the seat has taken the ticket n, which isn't ticket 0
  abbrev pub TakesTicket : ℕ → SeatOf X E → SeatOf X E → Type 0
  TakesTicket n s t = IsSameSeat s t × (0 < n) × (t.me ≡ (record s.me.0 { stage = Waiting n }, []))

  -- the turn of the seat with the ticket n has begun
  abbrev pub BeginsTurn : (X → List E → Type 0) → (List E → E → Type 0) → (E → ℕ)
      → ℕ → SeatOf X E → SeatOf X E → Type 0
  BeginsTurn stands right root n s t = IsSameSeat s t × Begins stands right root n s.me t.me

  -- the seat has a turn, and has seen the whole history
  abbrev pub KnowsAll : TableId → SeatOf X E → Type 0
  KnowsAll id s =
      (s.table_id ≡ id) × (0 < s.me.0.shares) × ((n : ℕ) × (used : Bool) × (s.me.0.stage ≡ InTurn n used s.me.0.history))

  -- the seat has a turn in which nothing was appended, and has seen the whole history
  abbrev pub MayAppend : TableId → SeatOf X E → Type 0
  MayAppend id s = (s.table_id ≡ id) × (0 < s.me.0.shares) × ((n : ℕ) × (s.me.0.stage ≡ InTurn n false s.me.0.history))

  -- the same, with the slot emptied, and the witness has seen the whole history too
  abbrev pub IsTurnSeat : TableId → SeatOf X E → Badge (PassView E) → Type 0
  IsTurnSeat id s witness = MayAppend id s × (s.me.1 ≡ (0, None) ∷ []) × (s.me.0.table.id ≡ id)
      × IsWitness id s.me.0.history witness

  -- the entry is right behind what the seat has seen, and its root is its own place or one of the seat's own places
  abbrev pub IsNext : (List E → E → Type 0) → (E → ℕ) → SeatOf X E → E → Type 0
  IsNext right root s e =
      right s.me.0.history e × ((root e ≡ length s.me.0.history) ⊎ (0 < times (root e) s.me.0.places))

  -- the entry, if there is one, was appended in the turn of the seat
  abbrev pub HasAppended : Option E → SeatOf X E → SeatOf X E → Type 0
  HasAppended entry s t = IsSameSeat s t × (t.me.1 ≡ s.me.1)
      × ((n : ℕ) (e : E) → s.me.0.stage ≡ InTurn n false s.me.0.history → entry ≡ Some e → t.me.0 ≡ after_append s.me.0 n e)
