-- decides: recorded runs
-- Traces: recorded runs. Which are accepted, and which line of one that isn't is the first wrong one.
use Rattle.std.specs.Prelude.{◌≡◌, ◌⊎◌, ℕ, ◌+◌, ◌<◌, ◌≤◌, Bool, true, List, [], ◌∷◌, ◌++◌, codes, flat_map, length, map, nat_le, take}
use Rattle.std.specs.List.{list_all}
use Rattle.ifdb_io.specs.declared.lines.TheConstants.{LONGEST_LINE}
use Rattle.ifdb_model.specs.Step.{Reader}
use Rattle.ifdb_model.specs.Run.{State, opening, Step, opens, asks, refused, long, stray, leaves, Told, run, replies}
use Rattle.ifdb_model.specs.Output.{text_of}
use Rattle.ifdb_model.specs.Script.{lines_of, line_steps}

-- what stands before a script's line, and before a line of a reply
abbrev pub asked_mark : List ℕ
asked_mark = codes "> "

abbrev pub told_mark : List ℕ
told_mark = codes "< "

-- a line of a reply as it is recorded
abbrev pub recorded_line : List ℕ → List ℕ
recorded_line line = told_mark ++ line

-- the lines of a reply's text as they are recorded
abbrev pub recorded_lines : List ℕ → List (List ℕ)
recorded_lines text = map recorded_line (lines_of text)

abbrev pub told_lines : Told → List (List ℕ)
told_lines t = recorded_lines (text_of t)

-- those of some replies
abbrev pub answer_lines : List Told → List (List ℕ)
answer_lines all = flat_map told_lines all

-- a step for which there was no memory; other steps take none
abbrev pub unasked : Step → Step
unasked opens = refused 0
unasked (asks n line) = refused n
unasked (refused n) = refused n
unasked long = long
unasked stray = stray
unasked (leaves n) = leaves n

-- a script's line with its reply: the machine's, or want of memory
pub data Block : Type 0 where
  answered : List ℕ → Block
  lacking : List ℕ → Block

abbrev pub line_in : Block → List ℕ
line_in (answered line) = line
line_in (lacking line) = line

abbrev pub steps_in : Block → List Step
steps_in (answered line) = line_steps line
steps_in (lacking line) = map unasked (line_steps line)

-- the lines of some blocks, from a state on
abbrev pub recorded : Reader → State → List Block → List (List ℕ)
recorded read st [] = []
recorded read st (b ∷ blocks) =
    (asked_mark ++ line_in b) ∷ (answer_lines (replies read st (steps_in b)) ++ recorded read (run read st (steps_in b)) blocks)

-- a line of a trace is at most as long as a script's
abbrev pub is_short : List ℕ → Bool
is_short line = nat_le (length line) LONGEST_LINE

-- lines that are those of some blocks
pub record IsAccepted (read : Reader) (lines : List (List ℕ)) : Type 0 where
  pub blocks : List Block
  pub lines_are : recorded read opening blocks ≡ lines
  pub short : list_all is_short lines ≡ true

-- some accepted lines begin with these
abbrev pub IsFront : Reader → List (List ℕ) → Type 0
IsFront read lines = (more : List (List ℕ)) × IsAccepted read (lines ++ more)

-- the least number of lines with which no accepted ones begin; or one more than there are lines, where they are such a
-- front and aren't accepted
pub record IsFault (read : Reader) (lines : List (List ℕ)) (k : ℕ) : Type 0 where
  pub before : (j : ℕ) → j < k → IsFront read (take j lines)
  pub at : ((k ≤ length lines) × (IsFront read (take k lines) → ⊥)) ⊎ ((k ≡ length lines + 1) × (IsAccepted read lines → ⊥))
