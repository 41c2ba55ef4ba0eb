-- What `lex` answers is what the line's tokens and its bytes say.
use Rattle.std.proofs.Common.{◌≡◌, ℕ, ◌≤◌, true, false, nat_lt, List, length, Ok, Err, arith}
use Rattle.std.specs.Str.Lossy.{utf8_valid_len}
use Rattle.std.proofs.lemmas.Grind.{common_steps}
use Rattle.ifdb_lex.specs.declared.token.Token.{Token}
use Rattle.ifdb_lex.specs.declared.fault.LexFault.TheVariants.{Limit}
use Rattle.ifdb_lex.specs.Line.{without_return, tokens_of}
use Rattle.ifdb_lex.specs.Limits.{exceeds}
use Rattle.ifdb_lex.specs.Lex.{lexed}

whole : (line : List ℕ) → length line ≤ utf8_valid_len line → nat_lt (utf8_valid_len line) (length line) ≡ false
whole line h = grind (arith, common_steps)

-- the tokens of a line that is a text and passes no limit
pub lexed_tokens : (line request : List ℕ) (tokens : List Token) → request ≡ without_return line → tokens_of request ≡ Ok tokens →
    length request ≤ utf8_valid_len request → exceeds request tokens ≡ false → lexed line ≡ Ok tokens
lexed_tokens line request tokens dropped is valid within = rw (← dropped, is, whole request valid, within)

pub lexed_limit : (line request : List ℕ) (tokens : List Token) → request ≡ without_return line → tokens_of request ≡ Ok tokens →
    length request ≤ utf8_valid_len request → exceeds request tokens ≡ true → lexed line ≡ Err Limit
lexed_limit line request tokens dropped is valid past = rw (← dropped, is, whole request valid, past)
