-- decides: recorded runs
-- The lines of a text of which more may come.
use Rattle.std.specs.Prelude.{ℕ, Bool, List, [], ◌∷◌, ◌++◌, ◌==◌, length, drop, filter, nat_lt, if◌then◌else◌}
use Rattle.ifdb_io.specs.declared.lines.TheConstants.{LONGEST_LINE}
use Rattle.ifdb_model.specs.Script.{lines_of}

-- a byte more at the front of the first line, if there is one
abbrev pub onto_first : ℕ → List (List ℕ) → List (List ℕ)
onto_first b [] = []
onto_first b (line ∷ lines) = (b ∷ line) ∷ lines

-- the lines that have ended: those with a newline, which is 10
abbrev pub ended_lines : List ℕ → List (List ℕ)
ended_lines [] = []
ended_lines (b ∷ bytes) = if b == 10 then [] ∷ ended_lines bytes else onto_first b (ended_lines bytes)

-- a line that is too long for a script
abbrev pub is_overlong : List ℕ → Bool
is_overlong line = nat_lt LONGEST_LINE (length line)

-- the lines that have ended, and a last piece that is too long already
abbrev pub settled_lines : List ℕ → List (List ℕ)
settled_lines bytes = ended_lines bytes ++ filter is_overlong (drop (length (ended_lines bytes)) (lines_of bytes))
