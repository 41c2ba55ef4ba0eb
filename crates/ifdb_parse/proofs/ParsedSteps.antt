-- What a line is read as, by what was found of its tokens and of its lexemes.
use Rattle.std.proofs.Common.{◌≡◌, ℕ, List, Ok, Err, ap, ◌∙◌}
use Rattle.ifdb_lex.specs.declared.token.Token.{Token}
use Rattle.ifdb_lex.specs.declared.fault.LexFault.{LexFault}
use Rattle.ifdb_lex.specs.Line.{without_return}
use Rattle.ifdb_lex.specs.Lex.{lexed}
use Rattle.ifdb_syntax.specs.declared.request.Request.{Request}
use Rattle.ifdb_syntax.specs.Words.{Lexemes}
use Rattle.ifdb_parse.specs.declared.fault.ParseFault.TheVariants as fault
use Rattle.ifdb_parse.specs.Lexemes.{lexemes_of}
use Rattle.ifdb_parse.specs.Parsed.{place, limited, judged, fault_of, parsed_tokens, parsed_lexed, parsed}
use Rattle.ifdb_parse.specs.rules.Requests.{whole}

-- the lexemes of a line's tokens
abbrev pub said : List ℕ → List Token → Lexemes
said l tokens = lexemes_of (without_return l) tokens

of_tokens : (l : List ℕ) (tokens : List Token) → lexed l ≡ Ok tokens → parsed l ≡ parsed_tokens (without_return l) tokens
unfolding parsed
of_tokens l tokens e = ap (parsed_lexed (without_return l)) e

pub parsed_fault : (l : List ℕ) (f : LexFault) → lexed l ≡ Err f → parsed l ≡ Err (fault_of f)
unfolding parsed
parsed_fault l f e = ap (parsed_lexed (without_return l)) e

pub parsed_request : (l : List ℕ) (tokens : List Token) (r : Request) → lexed l ≡ Ok tokens → whole (said l tokens) ≡ Ok r → parsed l ≡ limited (said l tokens) r
parsed_request l tokens r e is = of_tokens l tokens e ∙ ap (judged (without_return l) tokens (said l tokens)) is

pub parsed_left : (l : List ℕ) (tokens : List Token) (left : ℕ) → lexed l ≡ Ok tokens → whole (said l tokens) ≡ Err left → parsed l ≡ Err (fault.Syntax (place (without_return l) tokens left))
parsed_left l tokens left e is = of_tokens l tokens e ∙ ap (judged (without_return l) tokens (said l tokens)) is
