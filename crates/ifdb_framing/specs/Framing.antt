-- decides: scripts
-- What is told is framed, so that the bytes of a run say which replies it gave.
use Rattle.std.specs.Prelude.{◌≡◌, ℕ, ◌^◌, Bool, true, ◌&&◌, nat_lt, List, map}
use Rattle.std.specs.List.{list_all}
use Rattle.ifdb_wire.specs.Text.{reply_lines}
use Rattle.ifdb_model.specs.Run.{Step, asks, Told, opening, replies}
use Rattle.ifdb_model.specs.Output.{told_of, refusals, output}
use Rattle.ifdb_laws.specs.Bytes.{is_line, row_count, shown}
use Rattle.ifdb_db.specs.Reading.{read_line}

-- no line of the reply holds a newline
abbrev pub is_framed : Told → Bool
is_framed t = list_all is_line (reply_lines t.reply)

-- the line of the step holds no newline, where it has a line
abbrev pub is_of_line : Step → Bool
is_of_line (asks n line) = is_line line
is_of_line _ = true

-- whatever lines without newlines sessions ask, each reply is framed
abbrev pub StepsAreFramed : Type 0
StepsAreFramed = (steps : List Step) → list_all is_of_line steps ≡ true → list_all is_framed (replies read_line opening steps) ≡ true

-- whatever bytes a script has, and at whichever steps memory is refused, each reply is framed
abbrev pub RepliesAreFramed : Type 0
RepliesAreFramed = (input : List ℕ) (flags : List Bool) → list_all is_framed (told_of read_line input flags) ≡ true

-- the session's number and the number of rows have 64 bits
abbrev pub is_numbered : Told → Bool
is_numbered t = nat_lt t.number (2 ^ 64) && nat_lt (row_count t.reply) (2 ^ 64)

-- equal outputs of two scripts show the same replies, one by one
abbrev pub OutputsReadBack : Type 0
OutputsReadBack = (input other : List ℕ) (flags other_flags : List Bool)
    → list_all is_numbered (told_of read_line input flags) ≡ true → list_all is_numbered (told_of read_line other other_flags) ≡ true
    → output read_line input flags ≡ output read_line other other_flags
    → map shown (told_of read_line input flags) ≡ map shown (told_of read_line other other_flags)

-- and tell alike at which steps memory was refused
abbrev pub OutputsTellRefusals : Type 0
OutputsTellRefusals = (input other : List ℕ) (flags other_flags : List Bool)
    → list_all is_numbered (told_of read_line input flags) ≡ true → list_all is_numbered (told_of read_line other other_flags) ≡ true
    → output read_line input flags ≡ output read_line other other_flags
    → refusals (told_of read_line input flags) ≡ refusals (told_of read_line other other_flags)
