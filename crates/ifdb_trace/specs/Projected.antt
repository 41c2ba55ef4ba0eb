-- decides: recorded runs
-- What a projection read, and what it wrote.
use Rattle.std.specs.Prelude.{◌≡◌, ℕ, ◌≤◌, Bool, false, List, [], ◌∷◌, ◌++◌, length, take, Option}
use Rattle.std.specs.Io.KnownBytes.{Appends, Consumes, IsAtEnd}
use Rattle.ifdb_io.specs.Causes.{WritesShort}
use Rattle.ifdb_model.specs.Run.{State, Step, opening, run}
use Rattle.ifdb_model.specs.Script.{line_steps}
use Rattle.ifdb_model.specs.Low.{asked}
use Rattle.ifdb_db.specs.Reading.{read_line}
use Rattle.ifdb_db.specs.Room.{Hall, StandsFor}
use Rattle.ifdb_trace.specs.Ended.{settled_lines}
use Rattle.ifdb_trace.specs.Projection.{projected_line, projected_from, projected}

-- the input was read to its end, within the limit, and its projection was written
pub record ProjectedWhole (limit : ℕ) (level : List ℕ) (left_old left_new written_old written_new : Option (List ℕ)) : Type 0 where
  pub input : List ℕ
  pub read : Consumes left_old left_new input
  pub ended : IsAtEnd left_new
  pub within : length input ≤ limit
  pub wrote : Appends written_old written_new (projected read_line level input)

-- The projection of the settled lines of the input was written. The bytes of the input are as many as `Size` says, and these
-- were taken behind them.
pub record ProjectedFront (Size : ℕ → Type 0) (level past : List ℕ) (left_old left_new written_old written_new : Option (List ℕ)) : Type 0 where
  pub input : List ℕ
  pub read : Consumes left_old left_new (input ++ past)
  pub size : Size (length input)
  pub wrote : Appends written_old written_new (projected_from read_line level opening (settled_lines input))

-- a front of the projection of the bytes taken was written
pub record ProjectedCut (limit : ℕ) (level : List ℕ) (left_old left_new written_old written_new : Option (List ℕ)) : Type 0 where
  pub input : List ℕ
  pub n : ℕ
  pub read : Consumes left_old left_new input
  pub within : length input ≤ limit
  pub wrote : Appends written_old written_new (take n (projected read_line level input))

-- ---- one line

-- whether a line's step, if it has one, is asked inside
abbrev pub is_kept : List ℕ → State → List Step → Bool
is_kept level st [] = false
is_kept level st (x ∷ steps) = asked level st x

-- the room takes a line's step, whatever state it stood for, and so was the step asked
pub record IsStepped (level : List ℕ) (old new : Hall) (steps : List Step) (inside : Bool) : Type 0 where
  pub stands : (st : State) → StandsFor old st → StandsFor new (run read_line st steps)
  pub inside_is : (st : State) → StandsFor old st → inside ≡ is_kept level st steps

-- the room takes a line's step, whatever state it stood for, and its projection is written
pub record IsProjected (level : List ℕ) (old new : Hall) (line : List ℕ) (written_old written_new : Option (List ℕ)) : Type 0 where
  pub stands : (st : State) → StandsFor old st → StandsFor new (run read_line st (line_steps line))
  pub wrote : (st : State) → StandsFor old st → Appends written_old written_new (projected_line level st line (line_steps line))

-- only a front of its projection was written
abbrev pub IsCut : List ℕ → Hall → List ℕ → Option (List ℕ) → Option (List ℕ) → Type 0
IsCut level old line written_old written_new =
    (st : State) → StandsFor old st → WritesShort written_old written_new (projected_line level st line (line_steps line))

-- ---- all lines

-- a byte more than the limit was taken
abbrev pub ProjectedPast : ℕ → List ℕ → Option (List ℕ) → Option (List ℕ) → Option (List ℕ) → Option (List ℕ) → Type 0
ProjectedPast limit level left_old left_new written_old written_new =
    (last : ℕ) × ProjectedFront (λ n. n ≡ limit) level (last ∷ []) left_old left_new written_old written_new
