-- What a line without a newline is read as is a clean request.
use Rattle.std.proofs.Common.{◌≡◌, ℕ, ◌+◌, ◌-◌, Bool, true, false, List, [], ◌∷◌, length, refl, cond, eqb, ltb, ◌&&◌, arith, Some, None, Ok, Err, Option, Result}
use Rattle.std.specs.Prelude.{take, drop, slice_range, slice_index}
use Rattle.std.specs.Char.{to_ascii_lowercase}
use Rattle.std.specs.Str.{str_eq_ignore_ascii_case}
use Rattle.std.proofs.lemmas.Bool.{and_parts}
use Rattle.std.proofs.lemmas.Bool.Decides.{nat_tests}
use Rattle.ifdb_catalog.proofs.Tests.{both_of}
use Rattle.ifdb_value.specs.Name.{folded}
use Rattle.ifdb_lex.specs.declared.token.Token.{Token}
use Rattle.ifdb_lex.specs.declared.token.TokenKind.{TokenKind}
use Rattle.ifdb_lex.specs.declared.token.TokenKind.TheVariants as kind
use Rattle.ifdb_lex.specs.Line.{without_return}
use Rattle.ifdb_syntax.specs.declared.lexeme.Lexeme.{Lexeme}
use Rattle.ifdb_syntax.specs.declared.lexeme.Lexeme.TheVariants as t
use Rattle.ifdb_syntax.specs.declared.request.Request.{Request}
use Rattle.ifdb_syntax.specs.Words.{Lexemes}
use Rattle.ifdb_syntax.specs.Spelling.{word_text}
use Rattle.ifdb_parse.specs.declared.fault.ParseFault.{ParseFault}
use Rattle.ifdb_parse.specs.Lexemes.{reserved_words, spelled_among, reserved, word_or_name, undoubled, symbol_of, lexeme_from, lexeme_of, lexemes_of}
use Rattle.ifdb_parse.specs.Parsed.{parsed}
use Rattle.ifdb_parse.proofs.written.Parsed.{parsed_is_request}
use Rattle.ifdb_db.specs.Reading.{request_or_fault, read_line}
use Rattle.ifdb_laws.specs.Bytes.{is_line}
use Rattle.ifdb_framing.proofs.Lines.{is_no_newline}
use Rattle.ifdb_framing.proofs.Lists.{pick, all_map, each_map, all_take, all_drop}
use Rattle.ifdb_framing.proofs.Clean.{if_there, is_clean_request, reads_clean}
use Rattle.ifdb_framing.proofs.Passes.{is_clean_lexeme, are_clean_lexemes}
use Rattle.ifdb_framing.proofs.Grammar.{line_passes}

-- ---- parts of a line

range_line : (line : List ℕ) (start end : ℕ) → is_line line ≡ true → is_line (slice_range line start end) ≡ true
range_line line start end h = all_take is_no_newline (end - start) (drop start line) (all_drop is_no_newline start line h)

pub return_line : (line : List ℕ) → is_line line ≡ true → is_line (without_return line) ≡ true
return_line line h =
    pick is_line (eqb (slice_index line (length line - 1)) 13) (take (length line - 1) line) line (all_take is_no_newline (length line - 1) line h) h

small_byte : (b : ℕ) → is_no_newline b ≡ true → is_no_newline (to_ascii_lowercase b) ≡ true
small_byte b h = by (ltb b 65) (ltb b 91) where
  by : (low capital : Bool) → is_no_newline (cond low b (cond capital (b + 32) b)) ≡ true
  by true capital = h
  by false true = grind (arith, nat_tests)
  by false false = h

folded_line : (text : List ℕ) → is_line text ≡ true → is_line (folded text) ≡ true
folded_line text h = all_map is_no_newline is_no_newline to_ascii_lowercase text small_byte h

undoubled_line : (text : List ℕ) → is_line text ≡ true → is_line (undoubled text) ≡ true
undoubled_line [] h = refl
undoubled_line (b ∷ []) h = h
undoubled_line (b ∷ next ∷ text) h =
    let parts = and_parts (is_no_newline b) (is_line (next ∷ text)) h in
    let more = and_parts (is_no_newline next) (is_line text) parts.1 in
    pick is_line (eqb b 39 && eqb next 39) (39 ∷ undoubled text) (b ∷ undoubled (next ∷ text)) (undoubled_line text more.1)
    (both_of (is_no_newline b) (is_line (undoubled (next ∷ text))) parts.0 (undoubled_line (next ∷ text) parts.1))

-- ---- lexemes

among_clean : (text : List ℕ) (words : Lexemes) → are_clean_lexemes words ≡ true → if_there is_clean_lexeme (spelled_among text words) ≡ true
among_clean text [] h = refl
among_clean text (x ∷ words) h =
    let parts = and_parts (is_clean_lexeme x) (are_clean_lexemes words) h in
    pick (if_there is_clean_lexeme) (str_eq_ignore_ascii_case text (word_text x)) (Some x) (spelled_among text words) parts.0 (among_clean text words parts.1)

reserved_clean : (text : List ℕ) → if_there is_clean_lexeme (reserved text) ≡ true
unfolding reserved
reserved_clean text = among_clean text reserved_words refl

word_clean : (text : List ℕ) (o : Option Lexeme) → is_line text ≡ true → if_there is_clean_lexeme o ≡ true → is_clean_lexeme (word_or_name text o) ≡ true
word_clean text None h k = folded_line text h
word_clean text (Some x) h k = k

symbol_clean : (b : ℕ) → is_clean_lexeme (symbol_of b) ≡ true
symbol_clean b =
    pick is_clean_lexeme (eqb b 40) t.Open _ refl (pick is_clean_lexeme (eqb b 41) t.Close _ refl (pick is_clean_lexeme (eqb b 44) t.Comma _ refl (pick is_clean_lexeme (eqb b 46) t.Dot _ refl
    (pick is_clean_lexeme (eqb b 61) t.Equal _ refl (pick is_clean_lexeme (eqb b 60) t.Less _ refl (pick is_clean_lexeme (eqb b 62) t.Greater _ refl (pick is_clean_lexeme (eqb b 43) t.Plus _ refl
    (pick is_clean_lexeme (eqb b 45) t.Minus _ refl (pick is_clean_lexeme (eqb b 42) t.Star t.Semicolon refl refl)))))))))

from_clean : (line : List ℕ) (start end : ℕ) (k : TokenKind) → is_line line ≡ true → is_clean_lexeme (lexeme_from line start end k) ≡ true
from_clean line start end kind.Word h = word_clean (slice_range line start end) (reserved (slice_range line start end)) (range_line line start end h) (reserved_clean (slice_range line start end))
from_clean line start end (kind.Number value) h = refl
from_clean line start end kind.Text h = undoubled_line (slice_range line (start + 1) (end - 1)) (range_line line (start + 1) (end - 1) h)
from_clean line start end (kind.Symbol b) h = symbol_clean b
from_clean line start end kind.NotEqual h = refl
from_clean line start end kind.AtMost h = refl
from_clean line start end kind.AtLeast h = refl

lexemes_clean : (line : List ℕ) (tokens : List Token) → is_line line ≡ true → are_clean_lexemes (lexemes_of line tokens) ≡ true
lexemes_clean line tokens h = each_map is_clean_lexeme (lexeme_of line) tokens (λ (x : Token). from_clean line x.start x.end x.kind h)

-- ---- requests

request_clean : (line : List ℕ) (r : Request) → is_line line ≡ true → parsed line ≡ Ok r → is_clean_request r ≡ true
request_clean line r h e =
    let read = (parsed_is_request line r).0 e in
    line_passes.goes (lexemes_of (without_return line) read.tokens) r (lexemes_clean (without_return line) read.tokens (return_line line h)) read.spelled

answer_clean : (line : List ℕ) → is_line line ≡ true → (o : Result Request ParseFault) → parsed line ≡ o → reads_clean (request_or_fault o) ≡ true
answer_clean line h (Ok r) e = request_clean line r h e
answer_clean line h (Err f) e = refl

pub line_clean : (line : List ℕ) → is_line line ≡ true → reads_clean (read_line line) ≡ true
line_clean line h = answer_clean line h (parsed line) refl
