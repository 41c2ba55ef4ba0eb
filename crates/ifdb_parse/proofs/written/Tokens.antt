-- The numbers among the lexemes of a line that was read as tokens are at most 2^63, so that one is held by no value only
-- where it is 2^63 and stands alone.
use Rattle.std.proofs.Common.{◌≡◌, ℕ, ◌^◌, Bool, true, false, List, [], ◌∷◌, length, Option, Some, None, Result, Ok, Err, refl, sym, ap, ◌∙◌, arith}
use Rattle.std.specs.Prelude.{◌||◌, ◌&&◌, not, ◌==◌, nat_le, nat_lt, if◌then◌else◌, slice_range, count_by}
use Rattle.std.specs.List.{list_any, list_all}
use Rattle.std.specs.Str.{str_eq_ignore_ascii_case}
use Rattle.std.specs.Str.Lossy.{utf8_valid_len}
use Rattle.std.proofs.lemmas.Bool.{and_parts, or_parts}
use Rattle.std.proofs.lemmas.Bool.Decides.{nat_tests}
use Rattle.ifdb_lex.specs.declared.token.Token.{Token}
use Rattle.ifdb_lex.specs.declared.token.TokenKind.{TokenKind}
use Rattle.ifdb_lex.specs.declared.token.TokenKind.TheVariants as kind
use Rattle.ifdb_lex.specs.declared.fault.LexFault.TheVariants.{At, Limit}
use Rattle.ifdb_lex.specs.Limits.{is_long_name, is_large, is_large_number, nests_deep, is_not, exceeds}
use Rattle.ifdb_lex.specs.Line.{without_return, tokens_of}
use Rattle.ifdb_lex.specs.Lex.{judged, lexed}
use Rattle.ifdb_syntax.specs.declared.lexeme.Lexeme.{Lexeme}
use Rattle.ifdb_syntax.specs.declared.lexeme.Lexeme.TheVariants as t
use Rattle.ifdb_syntax.specs.Words.{Lexemes}
use Rattle.ifdb_syntax.specs.Spelling.{word_text}
use Rattle.ifdb_parse.specs.declared.limits.Before.{Before}
use Rattle.ifdb_parse.specs.declared.limits.Before.TheVariants as before
use Rattle.ifdb_parse.specs.Lexemes.{reserved_words, spelled_among, reserved, word_or_name, symbol_of, lexeme_from, lexemes_of}
use Rattle.ifdb_parse.specs.TreeLimits.{behind, is_lone, has_lone}
use Rattle.ifdb_parse.proofs.written.Tally.{fits_behind, all_fit}

-- a number is at most 2^63
abbrev small : Lexeme → Bool
small (t.Number n) = nat_le n (2 ^ 63)
small _ = true

-- ---- what a token says

small_if : (test : Bool) (x y : Lexeme) → small x ≡ true → small y ≡ true → small (if test then x else y) ≡ true
small_if true x y h k = h
small_if false x y h k = k

small_symbol : (b : ℕ) → small (symbol_of b) ≡ true
small_symbol b =
    small_if (b == 40) _ _ refl (small_if (b == 41) _ _ refl (small_if (b == 44) _ _ refl (small_if (b == 46) _ _ refl (small_if (b == 61) _ _ refl
    (small_if (b == 60) _ _ refl (small_if (b == 62) _ _ refl (small_if (b == 43) _ _ refl (small_if (b == 45) _ _ refl (small_if (b == 42) _ _ refl refl)))))))))

small_among : (text : List ℕ) (words : Lexemes) (w : Lexeme) → list_all small words ≡ true → spelled_among text words ≡ Some w → small w ≡ true
small_among text [] w h e = absurd cc
small_among text (x ∷ words) w h e =
    let parts = and_parts (small x) (list_all small words) h in
    go (str_eq_ignore_ascii_case text (word_text x)) parts.0 (small_among text words w parts.1) e
  where
    go : (test : Bool) → small x ≡ true → (spelled_among text words ≡ Some w → small w ≡ true) → (if test then Some x else spelled_among text words) ≡ Some w → small w ≡ true
    go true here later e = let same : x ≡ w = cc in ap small (sym same) ∙ here
    go false here later e = later e

small_word : (text : List ℕ) (o : Option Lexeme) → reserved text ≡ o → small (word_or_name text o) ≡ true
unfolding reserved
small_word text None e = refl
small_word text (Some w) e = small_among text reserved_words w refl e

small_from : (line : List ℕ) (start end : ℕ) (k : TokenKind) → is_large k ≡ false → small (lexeme_from line start end k) ≡ true
small_from line start end kind.Word h = small_word (slice_range line start end) (reserved (slice_range line start end)) refl
small_from line start end (kind.Number value) h = grind (arith, nat_tests)
small_from line start end kind.Text h = refl
small_from line start end (kind.Symbol b) h = small_symbol b
small_from line start end kind.NotEqual h = refl
small_from line start end kind.AtMost h = refl
small_from line start end kind.AtLeast h = refl

small_all : (line : List ℕ) (tokens : List Token) → list_any is_large_number tokens ≡ false → list_all small (lexemes_of line tokens) ≡ true
small_all line [] h = refl
small_all line (token ∷ tokens) h =
    let parts = or_parts (is_large_number token) (list_any is_large_number tokens) h in
    rw (small_from line token.start token.end token.kind parts.0) (small_all line tokens parts.1)

-- ---- a line that was read as tokens

within : (line : List ℕ) (ts tokens : List Token) → judged line (Ok ts) ≡ Ok tokens → exceeds line tokens ≡ false
within line ts tokens e = first (nat_lt (utf8_valid_len line) (length line)) e
  where
    second : (test : Bool) → exceeds line ts ≡ test → (if test then Err Limit else Ok ts) ≡ Ok tokens → exceeds line tokens ≡ false
    second true is e = absurd cc
    second false is e = let same : ts ≡ tokens = cc in ap (exceeds line) (sym same) ∙ is

    first : (test : Bool) → (if test then Err (At (utf8_valid_len line)) else (if exceeds line ts then Err Limit else Ok ts)) ≡ Ok tokens → exceeds line tokens ≡ false
    first true e = absurd cc
    first false e = second (exceeds line ts) refl e

no_large : (line : List ℕ) (tokens : List Token) → exceeds line tokens ≡ false → list_any is_large_number tokens ≡ false
no_large line tokens h = go (list_any is_long_name tokens) (list_any is_large_number tokens) (nests_deep 0 tokens) (nat_lt 64 (count_by (is_not line) tokens)) h
  where
    go : (a b c d : Bool) → (a || b || c || d) ≡ false → b ≡ false
    go true b c d h = absurd cc
    go false true c d h = absurd cc
    go false false c d h = refl

judged_small : (line : List ℕ) (r : Result (List Token) ℕ) (tokens : List Token) → judged line r ≡ Ok tokens → list_all small (lexemes_of line tokens) ≡ true
judged_small line (Ok ts) tokens e = small_all line tokens (no_large line tokens (within line ts tokens e))
judged_small line (Err at) tokens e = absurd cc

pub lexed_small : (line : List ℕ) (tokens : List Token) → lexed line ≡ Ok tokens → list_all small (lexemes_of (without_return line) tokens) ≡ true
lexed_small line tokens e = judged_small (without_return line) (tokens_of (without_return line)) tokens e

-- ---- numbers that no value holds

not_or : (a b c d : Bool) → a ≡ not b → c ≡ not d → (a && c) ≡ not (b || d)
not_or a true c d h k = rw h refl
not_or a false c d h k = rw h k

fits_unless_lone : (last : Before) (x : Lexeme) → small x ≡ true → fits_behind x last ≡ not (is_lone last x)
fits_unless_lone before.Sign (t.Number n) h = h
fits_unless_lone before.Operand (t.Number n) h = grind (arith, nat_tests)
fits_unless_lone before.Other (t.Number n) h = grind (arith, nat_tests)
fits_unless_lone before.Sign _ h = refl
fits_unless_lone before.Operand _ h = refl
fits_unless_lone before.Other _ h = refl

pub all_fit_unless_lone : (last : Before) (s : Lexemes) → list_all small s ≡ true → all_fit last s ≡ not (has_lone last s)
all_fit_unless_lone last [] h = refl
all_fit_unless_lone last (x ∷ s) h =
    let parts = and_parts (small x) (list_all small s) h in
    not_or (fits_behind x last) (is_lone last x) (all_fit (behind last x) s) (has_lone (behind last x) s)
    (fits_unless_lone last x parts.0) (all_fit_unless_lone (behind last x) s parts.1)
