-- decides: scripts
-- The lines of a script, and their steps.
use Rattle.std.specs.Prelude.{ℕ, List, [], ◌∷◌, ◌==◌, flat_map, if◌then◌else◌}
use Rattle.ifdb_wire.specs.Script as script
use Rattle.ifdb_wire.specs.Script.{ScriptLine, script_line}
use Rattle.ifdb_model.specs.Run.{Step, opens, asks, long, stray}

-- a byte more at the front of the first line
abbrev pub on_first : ℕ → List (List ℕ) → List (List ℕ)
on_first b [] = (b ∷ []) ∷ []
on_first b (line ∷ lines) = (b ∷ line) ∷ lines

-- the lines without their newlines, which are 10; the last one counts without a newline too, if it isn't empty
abbrev pub lines_of : List ℕ → List (List ℕ)
lines_of [] = []
lines_of (b ∷ bytes) = if b == 10 then [] ∷ lines_of bytes else on_first b (lines_of bytes)

-- the step of what a line asks for, if it is one
abbrev pub line_step : ScriptLine → List Step
line_step script.skips = []
line_step script.opens = opens ∷ []
line_step (script.asks n request) = asks n request ∷ []
line_step script.strays = stray ∷ []
line_step script.overlong = long ∷ []

-- the step of a line, if it is one
abbrev pub line_steps : List ℕ → List Step
line_steps line = line_step (script_line line)

-- the steps of a script
abbrev pub steps_of : List ℕ → List Step
steps_of bytes = flat_map line_steps (lines_of bytes)
