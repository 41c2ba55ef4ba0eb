-- decides: recorded runs
-- What the check of a trace read, and what it found.
use Rattle.std.specs.Prelude.{◌≡◌, ◌⊎◌, ℕ, ◌≤◌, List, [], ◌∷◌, ◌++◌, length, Option}
use Rattle.std.specs.Io.KnownBytes.{Consumes, IsAtEnd}
use Rattle.ifdb_model.specs.Script.{lines_of}
use Rattle.ifdb_db.specs.Reading.{read_line}
use Rattle.ifdb_trace.specs.Accepted.{IsAccepted, IsFront, IsFault}
use Rattle.ifdb_trace.specs.Ended.{settled_lines}

-- the input was read to its end, within the limit, and is accepted
pub record CheckedWhole (limit : ℕ) (left_old left_new : Option (List ℕ)) : Type 0 where
  pub input : List ℕ
  pub read : Consumes left_old left_new input
  pub ended : IsAtEnd left_new
  pub within : length input ≤ limit
  pub accepted : IsAccepted read_line (lines_of input)

-- The line of this number is the first wrong one of the input, whatever follows the bytes that were taken; or these are all
-- of it, and it is so of them.
pub record CheckedWrong (limit : ℕ) (left_old left_new : Option (List ℕ)) (k : ℕ) : Type 0 where
  pub input : List ℕ
  pub read : Consumes left_old left_new input
  pub within : length input ≤ limit
  pub wrong : ((rest : List ℕ) → IsFault read_line (lines_of (input ++ rest)) k)
      ⊎ (IsAtEnd left_new × IsFault read_line (lines_of input) k)

-- One byte more than the limit was taken, and the settled lines before it have no fault: those with a newline, and a last piece that is
-- too long already.
pub record CheckedPast (limit : ℕ) (left_old left_new : Option (List ℕ)) : Type 0 where
  pub input : List ℕ
  pub last : ℕ
  pub read : Consumes left_old left_new (input ++ last ∷ [])
  pub size : length input ≡ limit
  pub front : IsFront read_line (settled_lines input)
