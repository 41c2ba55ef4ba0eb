-- decides: recorded runs
-- What a script comes to below a level: the lines whose steps are asked there. A level is any list of tags.
use Rattle.std.specs.Prelude.{ℕ, List, [], ◌∷◌, ◌++◌, replicate, if◌then◌else◌}
use Rattle.ifdb_model.specs.Step.{Reader}
use Rattle.ifdb_model.specs.Run.{State, opening, Step, opens, asks, refused, long, stray, leaves, run}
use Rattle.ifdb_model.specs.Script.{lines_of, line_steps}
use Rattle.ifdb_model.specs.Low.{asked}

-- a line that is one byte longer than a script's longest, of letters x, which is 120
unfoldable pub overlong_line : List ℕ
overlong_line = replicate 65536 120

-- how the line of a step is written again
abbrev pub kept_line : List ℕ → Step → List ℕ
kept_line line opens = line
kept_line line (asks n request) = line
kept_line line (refused n) = line
kept_line line long = overlong_line
kept_line line stray = line
kept_line line (leaves n) = line

-- what is written of a line with these steps, of which there is one at most
abbrev pub projected_line : List ℕ → State → List ℕ → List Step → List ℕ
projected_line level st line [] = []
projected_line level st line (x ∷ steps) = if asked level st x then kept_line line x ++ 10 ∷ [] else []

-- what is written of lines, from a state on
abbrev pub projected_from : Reader → List ℕ → State → List (List ℕ) → List ℕ
projected_from read level st [] = []
projected_from read level st (line ∷ lines) =
    projected_line level st line (line_steps line) ++ projected_from read level (run read st (line_steps line)) lines

-- what is written of a script
abbrev pub projected : Reader → List ℕ → List ℕ → List ℕ
projected read level bytes = projected_from read level opening (lines_of bytes)
