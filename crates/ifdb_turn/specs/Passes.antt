-- What the calls of a turnstile say of a pass.
use Rattle.std.specs.Prelude.{ℕ, ◌<◌, List, length}
use Rattle.ifdb_turn.specs.declared.turnstile.Turnstile.{Turnstile}
use Rattle.ifdb_turn.specs.declared.turnstile.Pass.{Pass}
use Rattle.ifdb_turn.specs.Histories.{AllRight, NoRootsFrom}
use Rattle.ifdb_turn.specs.Places.{times, RisesFrom, LiesBelow}
use Rattle.ifdb_turn.specs.Seats.{IsPassSeat}

module _ {X E : Type 0} where
  -- the history that the pass has seen
  abbrev pub history : Pass X E → List E
  history pass = pass.seat.me.0.history

  -- the places of its own entries in it, rising
  abbrev pub places : Pass X E → List ℕ
  places pass = pass.seat.me.0.places

  -- how many of the 2 ^ 32 shares it has
  abbrev pub shares : Pass X E → ℕ
  shares pass = pass.seat.me.0.shares

  -- the pass belongs to this turnstile, and has no turn
  abbrev pub BelongsTo : Turnstile X E → Pass X E → Type 0
  BelongsTo turnstile pass = IsPassSeat turnstile.table.shared.table_id pass.seat

  -- each entry that the pass has seen is right after those before it, and its own places rise and are places of that history
  abbrev pub IsOrderly : (List E → E → Type 0) → Pass X E → Type 0
  IsOrderly right pass =
      AllRight right (history pass) × RisesFrom 0 (places pass) × LiesBelow (length (history pass)) (places pass)

  -- each entry that the pass has seen is its own
  abbrev pub OwnsAll : Pass X E → Type 0
  OwnsAll pass = (k : ℕ) → k < length (history pass) → 0 < times k (places pass)

  -- no entry that was added since has its root among the own places that the pass had
  abbrev pub NoForeignRoots : (E → ℕ) → Pass X E → Pass X E → Type 0
  NoForeignRoots root old new = NoRootsFrom root (history new) (length (history old)) (places old)
