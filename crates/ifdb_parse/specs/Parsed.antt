-- decides: the grammar
-- What a line's request is, or which fault it has: the faults of tokens first, then those of the grammar, then the limits
-- of the tree.
use Rattle.std.specs.Prelude.{ℕ, ◌-◌, if◌then◌else◌, List, [], ◌∷◌, length, drop, Result, Ok, Err}
use Rattle.ifdb_lex.specs.declared.token.Token.{Token}
use Rattle.ifdb_lex.specs.declared.fault.LexFault.{LexFault}
use Rattle.ifdb_lex.specs.declared.fault.LexFault.TheVariants as lex
use Rattle.ifdb_lex.specs.Line.{without_return}
use Rattle.ifdb_lex.specs.Lex.{lexed}
use Rattle.ifdb_syntax.specs.declared.request.Request.{Request}
use Rattle.ifdb_syntax.specs.Words.{Lexemes}
use Rattle.ifdb_parse.specs.declared.fault.ParseFault.{ParseFault}
use Rattle.ifdb_parse.specs.declared.fault.ParseFault.TheVariants as fault
use Rattle.ifdb_parse.specs.Lexemes.{lexemes_of}
use Rattle.ifdb_parse.specs.TreeLimits.{exceeds_tree}
use Rattle.ifdb_parse.specs.rules.Requests.{whole}

-- the start of the first of these tokens, or the line's length where there is none
abbrev pub start_of : List ℕ → List Token → ℕ
start_of line [] = length line
start_of line (token ∷ tokens) = token.start

-- the place in bytes from which on so many of the tokens are left
abbrev pub place : List ℕ → List Token → ℕ → ℕ
place line tokens left = start_of line (drop (length tokens - left) tokens)

-- a request, unless it passes a limit
abbrev pub limited : Lexemes → Request → Result Request ParseFault
limited lexemes request = if exceeds_tree lexemes request then Err fault.Limit else Ok request

-- what the parser of a line's lexemes found
abbrev pub judged : List ℕ → List Token → Lexemes → Result Request ℕ → Result Request ParseFault
judged line tokens lexemes (Ok request) = limited lexemes request
judged line tokens lexemes (Err left) = Err (fault.Syntax (place line tokens left))

-- the request of a line's tokens
abbrev pub parsed_tokens : List ℕ → List Token → Result Request ParseFault
parsed_tokens line tokens = judged line tokens (lexemes_of line tokens) (whole (lexemes_of line tokens))

-- the fault of a line whose tokens have this one
abbrev pub fault_of : LexFault → ParseFault
fault_of (lex.At at) = fault.Syntax at
fault_of lex.Limit = fault.Limit
fault_of lex.OutOfMemory = fault.OutOfMemory

-- the request of a line that was read as tokens
abbrev pub parsed_lexed : List ℕ → Result (List Token) LexFault → Result Request ParseFault
parsed_lexed line (Ok tokens) = parsed_tokens line tokens
parsed_lexed line (Err f) = Err (fault_of f)

-- the request of a line, once one carriage return at its end is dropped, or its fault
unfoldable pub parsed : List ℕ → Result Request ParseFault
parsed line = parsed_lexed (without_return line) (lexed line)
