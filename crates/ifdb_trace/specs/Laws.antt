-- decides: recorded runs
-- What the laws of traces and of projected scripts say, for every reading of lines. A level is any list of tags.
use Rattle.std.specs.Prelude.{◌≡◌, ◌≤◌, ◌<◌, ◌+◌, ◌^◌, ℕ, true, false, List, [], ◌∷◌, ◌++◌, flat_map, length, None, Some}
use Rattle.ifdb_model.specs.Step.{Reader}
use Rattle.ifdb_model.specs.Run.{State, Step, opens, asks, opening}
use Rattle.ifdb_model.specs.Script.{steps_of, lines_of}
use Rattle.ifdb_model.specs.Output.{output, texts}
use Rattle.ifdb_model.specs.Low.{low, heard}
use Rattle.ifdb_model.specs.Crossing.{quiet}
use Rattle.ifdb_laws.specs.StepLaws.{lacks_memory}
use Rattle.ifdb_trace.specs.Projection.{projected}
use Rattle.ifdb_trace.specs.Accepted.{IsAccepted, IsFault}
use Rattle.ifdb_trace.specs.Checking.{behind_told, dues, lines_fault, trace_fault}

-- a projected script's steps are those that are asked inside, in their order; no session has another number
abbrev pub StepsAreLow : Type 0
StepsAreLow = (read : Reader) (level bytes : List ℕ) → steps_of (projected read level bytes) ≡ low read level opening (steps_of bytes)

-- Run alone with its memory, the projected script of one that doesn't cross the level writes the bytes that those inside heard.
abbrev pub ProjectionIsHeard : Type 0
ProjectionIsHeard = (read : Reader) (level bytes : List ℕ) → quiet read level opening (steps_of bytes) ≡ true
    → output read (projected read level bytes) [] ≡ texts (heard read level opening (steps_of bytes))

-- the check of a trace finds nothing where it is accepted, and else its first wrong line
pub record ChecksAreExact : Type 0 where
  pub none : (read : Reader) (bytes : List ℕ) → trace_fault read bytes ≡ None → IsAccepted read (lines_of bytes)
  pub some : (read : Reader) (bytes : List ℕ) (k : ℕ) → trace_fault read bytes ≡ Some k → IsFault read (lines_of bytes) k

-- a trace has one first wrong line, and none where it is accepted
pub record FaultsAreExact : Type 0 where
  pub one : (read : Reader) (lines : List (List ℕ)) (j k : ℕ) → IsFault read lines j → IsFault read lines k → j ≡ k
  pub none : (read : Reader) (lines : List (List ℕ)) (k : ℕ) → IsFault read lines k → IsAccepted read lines → ⊥

-- a wrong line is the first wrong one whatever follows it: so the rest need not be read
abbrev pub FaultsStay : Type 0
FaultsStay = (read : Reader) (lines more : List (List ℕ)) (k : ℕ) → lines_fault read lines ≡ Some k → k ≤ length lines
    → lines_fault read (lines ++ more) ≡ Some k

-- numbers of sessions have 64 bits
abbrev pub IsNumberedStep : State → Step → Type 0
IsNumberedStep st opens = length st.sessions + 1 < 2 ^ 64
IsNumberedStep st (asks n line) = n < 2 ^ 64
IsNumberedStep st _ = Unit {0}

-- Where no line is read as want of memory, the first line behind a step tells whether there was memory for it: both ways
-- of a step are never alive at once.
abbrev pub WaysArePart : Type 0
WaysArePart = (read : Reader) → ((line : List ℕ) → lacks_memory (read line) ≡ false)
    → (st : State) (step : Step) (line : List ℕ) → IsNumberedStep st step
    → length (flat_map (behind_told line) (dues read st (step ∷ []))) ≤ 1
