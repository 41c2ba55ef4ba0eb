-- What the calls of a turnstile say of a turn.
use Rattle.std.specs.Prelude.{◌≡◌, ℕ, List, [], ◌∷◌, ◌++◌}
use Rattle.std.specs.Borrow.{MutBor}
use Rattle.ifdb_turn.specs.declared.turn.Turn.{Turn}
use Rattle.ifdb_turn.specs.declared.turnstile.Turnstile.{Turnstile}
use Rattle.ifdb_turn.specs.declared.turnstile.Pass.{Pass}
use Rattle.ifdb_turn.specs.Passes.{history}
use Rattle.ifdb_turn.specs.Seats.{IsTurnSeat, IsNext}

module _ {X E : Type 0} where
  -- the turnstile that the turn is at
  abbrev pub turnstile_of : Turn X E → Turnstile X E
  turnstile_of turn = turn.turnstile.now

  -- the pass that has the turn
  abbrev pub pass_of : Turn X E → Pass X E
  pass_of turn = turn.pass.now

  -- the object, as the turn has it
  abbrev pub object_of : Turn X E → X
  object_of turn = turn.object

  -- the turn is at this turnstile
  abbrev pub IsAt : Turnstile X E → Turn X E → Type 0
  IsAt turnstile turn = (turnstile_of turn).table.shared.table_id ≡ turnstile.table.shared.table_id

  -- the turn has borrowed this pass, and gives it back as it is when the turn ends
  abbrev pub Borrows : MutBor (Pass X E) → Turn X E → Type 0
  Borrows pass turn = turn.pass.ghost_name ≡ pass.ghost_name

  -- the turn may end: its pass has seen the whole history, and has appended nothing
  abbrev pub IsTurn : Turn X E → Type 0
  IsTurn turn = IsTurnSeat (turnstile_of turn).table.shared.table_id (pass_of turn).seat turn.witness

  -- the turn may end with this entry: the object stands for the history with it behind, it is right there, and its root
  -- is its own place or one of the pass's own places
  abbrev pub Adds : (X → List E → Type 0) → (List E → E → Type 0) → (E → ℕ) → Turn X E → E → Type 0
  Adds stands right root turn e =
      stands (object_of turn) (history (pass_of turn) ++ e ∷ []) × IsNext right root (pass_of turn).seat e

  -- the turn, after a write to its object
  abbrev pub turn_with : Turn X E → X → Turn X E
  turn_with turn x = record turn { object = x }
