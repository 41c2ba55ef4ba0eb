-- decides: the grammar
-- What a line's tokens are, or which fault it has.
use Rattle.std.specs.Prelude.{ℕ, min, if◌then◌else◌, nat_lt, List, length, Result, Ok, Err}
use Rattle.std.specs.Str.Lossy.{utf8_valid_len}
use Rattle.ifdb_lex.specs.declared.token.Token.{Token}
use Rattle.ifdb_lex.specs.declared.fault.LexFault.{LexFault}
use Rattle.ifdb_lex.specs.declared.fault.LexFault.TheVariants.{At, Limit}
use Rattle.ifdb_lex.specs.Line.{without_return, tokens_of}
use Rattle.ifdb_lex.specs.Limits.{exceeds}

-- The first place where no token begins or that isn't UTF-8, whichever is least; else whether a limit is passed. All
-- bytes of a line are tested for the first before its tokens are for the second.
abbrev pub judged : List ℕ → Result (List Token) ℕ → Result (List Token) LexFault
judged line (Err at) = Err (At (min at (utf8_valid_len line)))
judged line (Ok tokens) =
    if nat_lt (utf8_valid_len line) (length line) then Err (At (utf8_valid_len line))
    else (if exceeds line tokens then Err Limit else Ok tokens)

-- the tokens of a line, or its fault, once one carriage return at its end is dropped
abbrev pub lexed : List ℕ → Result (List Token) LexFault
lexed line = judged (without_return line) (tokens_of (without_return line))
