-- Worked scripts: lines, the tree of each request, and what each line is told.
use Rattle.std.specs.Prelude.{◌≡◌, ℕ, List, [], ◌∷◌, ◌++◌, flat_map, codes, decimal, Result, Err, if◌then◌else◌}
use Rattle.std.specs.Str.{bytes_eq}
use Rattle.ifdb_syntax.specs.declared.request.Request.{Request}
use Rattle.ifdb_wire.specs.declared.fault.Fault.{Fault}
use Rattle.ifdb_wire.specs.declared.fault.Fault.TheVariants as fault
use Rattle.ifdb_model.specs.Step.{Reader}
use Rattle.ifdb_model.specs.Output.{output}

-- a line of a worked script: OPEN of the session that gets this number; or a session's request, what it reads as, and the
-- lines that it is told
pub data Played : Type 0 where
  opened : ℕ → Played
  says : ℕ → List ℕ → Result Request Fault → List (List ℕ) → Played

-- a request that is told `OK`
abbrev pub done : ℕ → List ℕ → Result Request Fault → Played
done n text read = says n text read (codes "OK" ∷ [])

-- a request that is told one line
abbrev pub says_one : ℕ → List ℕ → Result Request Fault → List ℕ → Played
says_one n text read told = says n text read (told ∷ [])

-- the line as it stands in the script
abbrev pub line_of : Played → List ℕ
line_of (opened n) = codes "OPEN\n"
line_of (says n text read told) = decimal n ++ (32 ∷ text ++ 10 ∷ [])

-- the bytes of a worked script
abbrev pub script_of : List Played → List ℕ
script_of played = flat_map line_of played

-- what the line is told
abbrev pub lines_told : Played → List ℕ
lines_told (opened n) = decimal n ++ codes " OPEN\n"
lines_told (says n text read told) = flat_map (λ line. decimal n ++ (32 ∷ line ++ 10 ∷ [])) told

-- the bytes that it is to write
abbrev pub told_by : List Played → List ℕ
told_by played = flat_map lines_told played

-- the reader that knows these lines, and no others
abbrev pub reader_of : List Played → Reader
reader_of [] line = Err (fault.Syntax 0)
reader_of (opened n ∷ played) line = reader_of played line
reader_of (says n text read told ∷ played) line = if bytes_eq text line then read else reader_of played line

-- the script writes just this
abbrev pub Plays : List Played → Type 0
Plays played = output (reader_of played) (script_of played) [] ≡ told_by played
