-- No line is read as want of memory.
use Rattle.std.proofs.Common.{◌≡◌, ℕ, Bool, true, false, List, refl, cond}
use Rattle.std.specs.Prelude.{Result, Ok, Err, nat_lt, length}
use Rattle.std.specs.Str.Lossy.{utf8_valid_len}
use Rattle.ifdb_lex.specs.declared.token.Token.{Token}
use Rattle.ifdb_lex.specs.declared.fault.LexFault.TheVariants.{At, Limit}
use Rattle.ifdb_lex.specs.Line.{without_return, tokens_of}
use Rattle.ifdb_lex.specs.Limits.{exceeds}
use Rattle.ifdb_lex.specs.Lex.{judged as judged_tokens}
use Rattle.ifdb_syntax.specs.Words.{Lexemes}
use Rattle.ifdb_syntax.specs.declared.request.Request.{Request}
use Rattle.ifdb_parse.specs.declared.fault.ParseFault.TheVariants as fault
use Rattle.ifdb_parse.specs.Lexemes.{lexemes_of}
use Rattle.ifdb_parse.specs.TreeLimits.{exceeds_tree}
use Rattle.ifdb_parse.specs.Parsed.{parsed, parsed_lexed, limited, judged}
use Rattle.ifdb_parse.specs.rules.Requests.{whole}
use Rattle.ifdb_laws.specs.StepLaws.{lacks_memory}
use Rattle.ifdb_db.specs.Reading.{read_line, request_or_fault}

limited_spares : (s : Lexemes) (x : Request) → lacks_memory (request_or_fault (limited s x)) ≡ false
limited_spares s x = by (exceeds_tree s x) where
  by : (b : Bool) → lacks_memory (request_or_fault (cond b (Err fault.Limit) (Ok x))) ≡ false
  by true = refl
  by false = refl

judged_spares : (line : List ℕ) (tokens : List Token) (s : Lexemes) (o : Result Request ℕ) → lacks_memory (request_or_fault (judged line tokens s o)) ≡ false
judged_spares line tokens s (Ok x) = limited_spares s x
judged_spares line tokens s (Err left) = refl

tokens_spare : (line : List ℕ) (tokens : List Token) → lacks_memory (request_or_fault (parsed_lexed line (Ok tokens))) ≡ false
tokens_spare line tokens = judged_spares line tokens (lexemes_of line tokens) (whole (lexemes_of line tokens))

lexed_spares : (line text : List ℕ) (o : Result (List Token) ℕ) → lacks_memory (request_or_fault (parsed_lexed line (judged_tokens text o))) ≡ false
lexed_spares line text (Err at) = refl
lexed_spares line text (Ok tokens) = by (nat_lt (utf8_valid_len text) (length text)) (exceeds text tokens) where
  by : (b c : Bool) → lacks_memory (request_or_fault (parsed_lexed line (cond b (Err (At (utf8_valid_len text))) (cond c (Err Limit) (Ok tokens))))) ≡ false
  by true c = refl
  by false true = refl
  by false false = tokens_spare line tokens

pub read_spares : (line : List ℕ) → lacks_memory (read_line line) ≡ false
unfolding parsed
read_spares line = lexed_spares (without_return line) (without_return line) (tokens_of (without_return line))
