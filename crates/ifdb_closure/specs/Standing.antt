-- decides: closures
-- What a running script with closures holds, and the world that it stands for.
use Rattle.std.specs.Prelude.{◌≡◌, ℕ, ◌-◌, true, false, List, [], ◌∷◌, nat_lt, length, map, slice_index_or, Option, Some, None, is_some, if◌then◌else◌}
use Rattle.ifdb_model.specs.Run.{opening, Step, Told, run}
use Rattle.ifdb_model.specs.Output.{texts}
use Rattle.ifdb_laws.specs.Scripts.{none_reads_memory}
use Rattle.ifdb_db.specs.Reading.{read_line}
use Rattle.ifdb_db.specs.Room.{Hall, StandsFor}
use Rattle.ifdb_closure.specs.declared.stage.Seat.{Seat}
use Rattle.ifdb_closure.specs.declared.stage.Stage.{Stage}
use Rattle.ifdb_closure.specs.Numbers.{are_numbers}
use Rattle.ifdb_closure.specs.Closures.{Greeting, Closure, World, seated, greeting_in, after_turn}
use Rattle.ifdb_closure.specs.Lacking.{Memory, enough, turn_with}
use Rattle.ifdb_closure.specs.Speaking.{speech}

-- a seat that nobody has
abbrev pub no_seat : Seat
no_seat = record { session = 0; greeting = None }

-- the seat of a number; where there is none, nobody's
abbrev pub seat_at : List Seat → ℕ → Seat
seat_at seats n = if nat_lt 0 n then slice_index_or seats (n - 1) no_seat else no_seat

-- the accepted HELLO of a session that has a principal
abbrev pub IsGreeted : World → ℕ → Option Greeting → Type 0
IsGreeted w n None = is_some (seated w n).principal ≡ false
IsGreeted w n (Some g) = (is_some (seated w n).principal ≡ true) × (greeting_in w.greetings n ≡ g)

-- a room, seats and closures stand for a world that some steps led to
pub record Stands (hall : Hall) (seats : List Seat) (closures : List Closure) (w : World) : Type 0 where
  pub room : StandsFor hall w.state
  pub seats_are : map (λ (s : Seat). s.session) seats ≡ w.seats
  pub rise : are_numbers 0 (length w.state.sessions) w.seats ≡ true
  pub greeted : (n : ℕ) → IsGreeted w n (seat_at seats n).greeting
  pub closures_are : closures ≡ w.closures
  pub past : List Step
  pub ran : w.state ≡ run read_line opening past

abbrev pub IsFor : Stage → World → Type 0
IsFor s w = Stands s.room s.seats.items s.closures w

-- there is a world that it stands for
abbrev pub IsSet : Stage → Type 0
IsSet s = (w : World) × IsFor s w

-- ---- turns

-- of a step that lacked memory this was told: error 20
abbrev pub IsToldAt : Memory → List Told → Type 0
IsToldAt enough told = Unit {0}
IsToldAt _ told = none_reads_memory told ≡ false

-- a step was taken, with the memory that it had
pub record Turned (new : Stage) (w : World) (step : Step) (text : List ℕ) : Type 0 where
  pub memory : Memory
  pub stands : IsFor new (after_turn speech w (turn_with speech w memory step))
  pub told : text ≡ texts (turn_with speech w memory step).told
  pub exact : IsToldAt memory (turn_with speech w memory step).told

-- so it is for each world that it stood for
abbrev pub Does : Stage → Stage → Step → List ℕ → Type 0
Does old new step text = (w : World) → IsFor old w → Turned new w step text

-- a line's step was taken; a line without a step does nothing
abbrev pub Plays : Stage → Stage → List Step → List ℕ → Type 0
Plays old new [] text = (new ≡ old) × (text ≡ [])
Plays old new (x ∷ []) text = Does old new x text
Plays old new (x ∷ y ∷ steps) text = ⊥
