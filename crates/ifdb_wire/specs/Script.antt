-- decides: replies as text
-- What a line of a script asks for.
use Rattle.std.specs.Prelude.{ℕ, ◌+◌, ◌-◌, ◌<◌, ◌^◌, ◌==◌, nat_lt, if◌then◌else◌, codes, Option, Some, None}
use Rattle.std.specs.Prelude.{List, [], length, take, drop, slice_index, position}
use Rattle.std.specs.List.{list_all}
use Rattle.std.specs.Str.{bytes_eq}
use Rattle.std.specs.Str.Parse.{digits_value}
use Rattle.std.specs.Char.{is_ascii_digit}
use Rattle.ifdb_io.specs.declared.lines.TheConstants.{LONGEST_LINE}
use Rattle.ifdb_wire.specs.declared.script.StepLine.{StepLine}
use Rattle.ifdb_wire.specs.declared.script.StepLine.TheVariants as read

-- what a line asks for: nothing, a new session, a request of a session, or none of these; or it is too long
pub data ScriptLine : Type 0 where
  skips : ScriptLine
  opens : ScriptLine
  asks : ℕ → List ℕ → ScriptLine
  strays : ScriptLine
  overlong : ScriptLine

-- a line without one `\r` at its end
abbrev pub without_return : List ℕ → List ℕ
without_return line = if bytes_eq (drop (length line - 1) line) (codes "\r") then take (length line - 1) line else line

-- the number that digits write
abbrev pub digits_number : List ℕ → Option ℕ
digits_number digits = if list_all is_ascii_digit digits then Some (digits_value 10 digits) else None

-- a session's number: 1 to 18 digits, the first not `0`, which is 48
abbrev pub session_number : List ℕ → Option ℕ
session_number digits =
    if length digits == 0 then None
    else (if nat_lt 18 (length digits) then None
    else (if slice_index digits 0 == 48 then None
    else digits_number digits))

-- a request of the session that was read, if one was
abbrev pub asks_of : Option ℕ → List ℕ → ScriptLine
asks_of None request = strays
asks_of (Some session) request = asks session request

-- a session's number, then nothing or one space and a request
abbrev pub split_at : List ℕ → Option ℕ → ScriptLine
split_at line None = asks_of (session_number line) []
split_at line (Some at) = asks_of (session_number (take at line)) (drop (at + 1) line)

-- a line without its `\r`; `#` is 35, and a space 32
abbrev pub short_line : List ℕ → ScriptLine
short_line line =
    if length line == 0 then skips
    else (if slice_index line 0 == 35 then skips
    else (if bytes_eq line (codes "OPEN") then opens
    else split_at line (position (λ b. b == 32) line)))

-- a line without its newline; its `\r` counts in its length
abbrev pub script_line : List ℕ → ScriptLine
script_line line = if nat_lt LONGEST_LINE (length line) then overlong else short_line (without_return line)

-- what a line that was read asks for
abbrev pub asked_by : StepLine → ScriptLine
asked_by read.Skip = skips
asked_by read.Open = opens
asked_by (read.Ask session request) = asks session request.now
asked_by read.Stray = strays

-- a session's number is never 0, and has at most 18 digits
abbrev pub IsSessionNumber : ℕ → Type 0
IsSessionNumber n = (0 < n) × (n < 10 ^ 18)

-- a request is of a session that has a number
abbrev pub IsNumbered : StepLine → Type 0
IsNumbered read.Skip = Unit {0}
IsNumbered read.Open = Unit {0}
IsNumbered (read.Ask session request) = IsSessionNumber session
IsNumbered read.Stray = Unit {0}
