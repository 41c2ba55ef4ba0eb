-- What the bytes of a token are, and where a text may be cut at it.
use Rattle.std.proofs.Common.{◌≡◌, ℕ, zero, suc, ◌+◌, ◌-◌, ◌<◌, ◌≤◌, min, Bool, true, false, ◌||◌, ◌==◌, nat_lt, count_by, if◌then◌else◌, List, [], ◌∷◌, length, take, drop, slice_index, slice_range, get_or, Option, Some, None, Result, Ok, Err, refl, sym, ap, subst, ◌∙◌, arith}
use Rattle.std.specs.Char.{is_ascii_digit, to_ascii_lowercase}
use Rattle.std.specs.List.{list_all, list_any, prefix_len}
use Rattle.std.specs.Str.{IsUtf8, IsCharBoundary}
use Rattle.std.specs.Str.Lossy.{utf8_valid_len}
use Rattle.std.proofs.lemmas.Bool.{eqb-true}
use Rattle.std.proofs.lemmas.Bool.Decides.{nat_tests}
use Rattle.std.proofs.lemmas.Grind.{common_steps}
use Rattle.std.proofs.lemmas.List.{length-drop, get_or-drop, get_or-take, length-take-le}
use Rattle.std.proofs.lemmas.List.Sums.{prefix_len_passes}
use Rattle.std.proofs.lemmas.Str.{IsCharBoundary-before_ascii, IsCharBoundary-after_ascii}
use Rattle.ifdb_value.specs.Name.{is_name, is_name_byte, folded}
use Rattle.ifdb_value.proofs.NameLemmas.{is_name_folded}
use Rattle.ifdb_lex.specs.declared.token.Token.{Token}
use Rattle.ifdb_lex.specs.declared.token.TokenKind.{TokenKind}
use Rattle.ifdb_lex.specs.declared.token.TokenKind.TheVariants as kind
use Rattle.ifdb_lex.specs.Front.{Piece, begins_word, is_word_byte, word, number, closing, closed, quoted, symbol, front}
use Rattle.ifdb_lex.specs.Limits.{is_word, is_long_name, is_large_number, nests_deep, is_not, exceeds}
use Rattle.ifdb_lex.specs.Line.{without_return, tokens_of, IsLaidOut}
use Rattle.ifdb_lex.specs.Lex.{judged, lexed}
use Rattle.ifdb_lex.specs.declared.fault.LexFault.{LexFault}
use Rattle.ifdb_lex.specs.declared.fault.LexFault.TheVariants.{At, Limit}
use Rattle.ifdb_parse.specs.Readable.{IsReadable, AreReadable}

-- by both cases of a test
either : {A : Type 0} (x y : Option A) (a : A) (P : Type 0) (test : Bool) →
    (test ≡ true → x ≡ Some a → P) → (test ≡ false → y ≡ Some a → P) → (if test then x else y) ≡ Some a → P
either x y a P true = λ yes no e. yes refl e
either x y a P false = λ yes no e. no refl e

-- ---- what kind of token begins so

kind_of : Option Piece → TokenKind
kind_of None = kind.NotEqual
kind_of (Some piece) = piece.0

length_of : Option Piece → ℕ
length_of None = 0
length_of (Some piece) = piece.1

is_text : TokenKind → Bool
is_text kind.Text = true
is_text _ = false

not_true : {A : Type 0} → false ≡ true → A
not_true e = absurd (cc)

-- a symbol is no word and no text
symbol_is_other : (first second : ℕ) → (is_word (kind_of (symbol first second)) ≡ false) × (is_text (kind_of (symbol first second)) ≡ false)
unfolding kind_of is_text
symbol_is_other first second = (grind (arith, common_steps), grind (arith, common_steps))

closed_is_text : (o : Option ℕ) → is_word (kind_of (closed o)) ≡ false
unfolding kind_of
closed_is_text None = refl
closed_is_text (Some len) = refl

closed_length : (o : Option ℕ) (len : ℕ) → closed o ≡ Some (kind.Text, len) → o ≡ Some len
unfolding length_of
closed_length None len e = absurd (cc)
closed_length (Some n) len e = ap (λ (k : ℕ). Some k) (ap length_of e)

-- what is no word is not read as one
no_word : {A : Type 0} (o : Option Piece) (len : ℕ) → is_word (kind_of o) ≡ false → o ≡ Some (kind.Word, len) → A
unfolding kind_of
no_word o len other e = not_true (sym other ∙ ap (λ (p : Option Piece). is_word (kind_of p)) e)

no_text : {A : Type 0} (o : Option Piece) (len : ℕ) → is_text (kind_of o) ≡ false → o ≡ Some (kind.Text, len) → A
unfolding kind_of is_text
no_text o len other e = not_true (sym other ∙ ap (λ (p : Option Piece). is_text (kind_of p)) e)

pub front_word : (text : List ℕ) (len : ℕ) → front text ≡ Some (kind.Word, len) →
    (begins_word (slice_index text 0) ≡ true) × (len ≡ prefix_len is_word_byte text)
unfolding kind_of length_of
front_word text len e =
    let first = slice_index text 0 in
    let P : Type 0 = (begins_word first ≡ true) × (len ≡ prefix_len is_word_byte text) in
    let symbols : Option Piece = symbol first (slice_index text 1) in
    let texts : Option Piece = if first == 39 then quoted text else symbols in
    let numbers : Option Piece = if is_ascii_digit first then Some (number text) else texts in
    let piece : Piece = (kind.Word, len) in
    either (Some (word text)) numbers piece P (begins_word first)
    (λ begins is. (begins, sym (ap length_of is)))
    (λ other more. either (Some (number text)) texts piece P (is_ascii_digit first)
    (λ digit is. no_word (Some (number text)) len refl is)
    (λ no_digit more. either (quoted text) symbols piece P (first == 39)
    (λ quote is. no_word (quoted text) len (closed_is_text (closing 1 (drop 1 text))) is)
    (λ no_quote is. no_word symbols len (symbol_is_other first (slice_index text 1)).0 is) more) more) e

pub front_text : (text : List ℕ) (len : ℕ) → front text ≡ Some (kind.Text, len) → (slice_index text 0 ≡ 39) × (closing 1 (drop 1 text) ≡ Some len)
unfolding kind_of is_text
front_text text len e =
    let first = slice_index text 0 in
    let P : Type 0 = (first ≡ 39) × (closing 1 (drop 1 text) ≡ Some len) in
    let symbols : Option Piece = symbol first (slice_index text 1) in
    let texts : Option Piece = if first == 39 then quoted text else symbols in
    let numbers : Option Piece = if is_ascii_digit first then Some (number text) else texts in
    let piece : Piece = (kind.Text, len) in
    either (Some (word text)) numbers piece P (begins_word first)
    (λ begins is. no_text (Some (word text)) len refl is)
    (λ other more. either (Some (number text)) texts piece P (is_ascii_digit first)
    (λ digit is. no_text (Some (number text)) len refl is)
    (λ no_digit more. either (quoted text) symbols piece P (first == 39)
    (λ quote is. (eqb-true first 39 quote, closed_length (closing 1 (drop 1 text)) len is))
    (λ no_quote is. no_text symbols len (symbol_is_other first (slice_index text 1)).1 is) more) more) e

-- ---- a word

-- a byte of a word may stand in a name, once it is folded
word_byte_folds : (b : ℕ) → is_word_byte b ≡ true → is_name_byte (to_ascii_lowercase b) ≡ true
word_byte_folds b h = grind (arith, common_steps)

word_byte_ascii : (b : ℕ) → is_word_byte b ≡ true → b < 128
word_byte_ascii b h = grind (arith, common_steps)

begins_no_digit : (b : ℕ) → begins_word b ≡ true → (is_ascii_digit b ≡ false) × (b < 128) × (is_word_byte b ≡ true)
begins_no_digit b h = grind (arith, common_steps)

bytes_fold_step : (b : ℕ) (text : List ℕ) (test : Bool) → is_word_byte b ≡ test →
    list_all (λ b. is_name_byte (to_ascii_lowercase b)) (take (prefix_len is_word_byte text) text) ≡ true →
    list_all (λ b. is_name_byte (to_ascii_lowercase b)) (take (prefix_len is_word_byte (b ∷ text)) (b ∷ text)) ≡ true
bytes_fold_step b text true e more =
    let next : 1 + prefix_len is_word_byte text ≡ suc (prefix_len is_word_byte text) = omega arith in
    rw (e, next, word_byte_folds b e) more
bytes_fold_step b text false e more = rw e refl

bytes_fold : (text : List ℕ) → list_all (λ b. is_name_byte (to_ascii_lowercase b)) (take (prefix_len is_word_byte text) text) ≡ true
bytes_fold [] = refl
bytes_fold (b ∷ text) = bytes_fold_step b text (is_word_byte b) refl (bytes_fold text)

-- the bytes of a word, from 1 to 63 of them, are a name once they are folded
word_is_name : (text : List ℕ) (len : ℕ) → len ≡ prefix_len is_word_byte text → 0 < len → len ≤ 63 → len ≤ length text →
    begins_word (slice_index text 0) ≡ true → is_name (folded (take len text)) ≡ true
word_is_name text len is some short fits begins =
    let size : length (take len text) ≡ len = length-take-le len text fits in
    let first : slice_index (take len text) 0 ≡ slice_index text 0 = get_or-take len text 0 0 some in
    let no_digit = (begins_no_digit (slice_index text 0) begins).0 in
    let not_none : (len == 0) ≡ false = grind (arith, nat_tests) in
    let not_long : nat_lt 63 len ≡ false = grind (arith, nat_tests) in
    let all : list_all (λ b. is_name_byte (to_ascii_lowercase b)) (take len text) ≡ true = rw is (bytes_fold text) in
    is_name_folded (take len text) ∙ rw (size, first, not_none, not_long, no_digit) all

-- ---- where a text may be cut

pub record WordAt (line : List ℕ) (token : Token) : Type 0 where
  pub start : IsCharBoundary line token.start
  pub end : IsCharBoundary line token.end
  pub name : is_name (folded (slice_range line token.start token.end)) ≡ true

-- a word that is not too long has at most 63 bytes
not_long : (token : Token) → token.kind ≡ kind.Word → is_long_name token ≡ false → token.end - token.start ≤ 63
not_long token is short =
    let word : is_word token.kind ≡ true = ap is_word is in
    let size : nat_lt 63 (token.end - token.start) ≡ false = rw word at short in
    grind (arith, nat_tests)

pub word_at : (line : List ℕ) (token : Token) → IsUtf8 line → IsReadable line token → token.kind ≡ kind.Word → WordAt line token
word_at line token valid h is =
    let text = drop token.start line in
    let len = token.end - token.start in
    let stands : front text ≡ Some (kind.Word, len) = h.stands ∙ ap (λ (k : TokenKind). Some (k, len)) is in
    let w = front_word text len stands in
    let some : 0 < len = omega (arith, h.some) in
    let size : length text ≡ length line - token.start = length-drop token.start line in
    let end_is : token.start + (len - 1) ≡ token.end - 1 = omega (arith, h.some) in
    let next : token.end - 1 + 1 ≡ token.end = omega (arith, h.some) in
    let first : get_or text 0 0 ≡ get_or line (token.start + 0) 0 = get_or-drop token.start line 0 0 in
    let at_start : token.start + 0 ≡ token.start = omega arith in
    let last : get_or text (len - 1) 0 ≡ get_or line (token.end - 1) 0 = get_or-drop token.start line (len - 1) 0 ∙ ap (λ n. get_or line n 0) end_is in
    let passes : is_word_byte (get_or text (len - 1) 0) ≡ true = prefix_len_passes is_word_byte text (len - 1) 0 (omega (arith, w.1, some)) in
    let ascii : get_or text 0 0 < 128 = (begins_no_digit (get_or text 0 0) w.0).1 in
    let last_ascii : get_or text (len - 1) 0 < 128 = word_byte_ascii (get_or text (len - 1) 0) passes in
    let B : ℕ → Type 0 = IsCharBoundary line in
    record {
      start = IsCharBoundary-before_ascii line token.start (omega (arith, h.some, h.within)) (rw at_start at (rw first at ascii));
      end = subst B next (IsCharBoundary-after_ascii line (token.end - 1) valid (omega (arith, h.some, h.within)) (rw last at last_ascii));
      name = word_is_name text len w.1 some (not_long token is h.short) (omega (arith, size, h.some, h.within)) w.0;
    }

pub record TextAt (line : List ℕ) (token : Token) : Type 0 where
  pub open_ : IsCharBoundary line (token.start + 1)
  pub close_ : IsCharBoundary line (token.end - 1)
  pub order : token.start + 1 ≤ token.end - 1

-- a closed text ends with a quote, `gap` bytes before its place
abbrev EndsAt : ℕ → List ℕ → ℕ → Type 0
EndsAt n text place = (gap : ℕ) × (place ≡ n + gap + 1) × (gap < length text) × (get_or text gap 0 ≡ 39)

closing_at : (n : ℕ) (text : List ℕ) (place : ℕ) → closing n text ≡ Some place → EndsAt n text place
closing_at n [] place e = absurd (cc)
closing_at n (b ∷ []) place e =
    either (Some (n + 1)) None place (EndsAt n (b ∷ []) place) (b == 39)
    (λ quote is. let p : n + 1 ≡ place = cc in (0, omega arith, omega arith, eqb-true b 39 quote))
    (λ other is. absurd (cc)) e
closing_at n (b ∷ next ∷ text) place e =
    either (if next == 39 then closing (n + 2) text else Some (n + 1)) (closing (n + 1) (next ∷ text)) place
    (EndsAt n (b ∷ next ∷ text) place) (b == 39)
    (λ quote is. either (closing (n + 2) text) (Some (n + 1)) place (EndsAt n (b ∷ next ∷ text) place) (next == 39)
    (λ twice more. let ih = closing_at (n + 2) text place more in (suc (suc ih.0), omega (arith, ih.1), omega (arith, ih.2), ih.3))
    (λ last ends. let p : n + 1 ≡ place = cc in (0, omega arith, omega arith, eqb-true b 39 quote)) is)
    (λ other more. let ih = closing_at (n + 1) (next ∷ text) place more in (suc ih.0, omega (arith, ih.1), omega (arith, ih.2), ih.3)) e

pub text_at : (line : List ℕ) (token : Token) → IsUtf8 line → IsReadable line token → token.kind ≡ kind.Text → TextAt line token
text_at line token valid h is =
    let text = drop token.start line in
    let len = token.end - token.start in
    let stands : front text ≡ Some (kind.Text, len) = h.stands ∙ ap (λ (k : TokenKind). Some (k, len)) is in
    let w = front_text text len stands in
    let c = closing_at 1 (drop 1 text) len w.1 in
    let at_start : token.start + 0 ≡ token.start = omega arith in
    let first : get_or line token.start 0 ≡ 39 = ap (λ n. get_or line n 0) (sym at_start) ∙ (sym (get_or-drop token.start line 0 0) ∙ w.0) in
    let end_is : token.start + (1 + c.0) ≡ token.end - 1 = omega (arith, c.1, h.some) in
    let last : get_or line (token.end - 1) 0 ≡ 39 =
    ap (λ n. get_or line n 0) (sym end_is) ∙ (sym (get_or-drop token.start line (1 + c.0) 0) ∙ (sym (get_or-drop 1 text c.0 0) ∙ c.3)) in
    record {
      open_ = IsCharBoundary-after_ascii line token.start valid (omega (arith, h.some, h.within)) (omega (arith, first));
      close_ = IsCharBoundary-before_ascii line (token.end - 1) (omega (arith, h.some, h.within)) (omega (arith, last));
      order = omega (arith, c.1, h.some);
    }

-- ---- the tokens of a line without a fault

pub record Judged (line : List ℕ) (answer : Result (List Token) ℕ) (tokens : List Token) : Type 0 where
  pub read : answer ≡ Ok tokens
  pub valid : nat_lt (utf8_valid_len line) (length line) ≡ false
  pub within : exceeds line tokens ≡ false

err_is_no_ok : {A : Type 0} (fault : LexFault) (tokens : List Token) → Err fault ≡ Ok tokens → A
err_is_no_ok fault tokens e = absurd (cc)

-- what is known where a line has these tokens
judged_by : (line : List ℕ) (found tokens : List Token) (cut long : Bool) → nat_lt (utf8_valid_len line) (length line) ≡ cut → exceeds line found ≡ long →
    (if cut then Err (At (utf8_valid_len line)) else (if long then Err Limit else Ok found)) ≡ Ok tokens → Judged line (Ok found) tokens
judged_by line found tokens true long c l e = err_is_no_ok (At (utf8_valid_len line)) tokens e
judged_by line found tokens false true c l e = err_is_no_ok Limit tokens e
judged_by line found tokens false false c l e =
    let same : found ≡ tokens = cc in
    record { read = ap (λ (ts : List Token). Ok ts) same; valid = c; within = rw same at l }

pub judged_ok : (line : List ℕ) (answer : Result (List Token) ℕ) (tokens : List Token) → judged line answer ≡ Ok tokens → Judged line answer tokens
judged_ok line (Err at) tokens e = err_is_no_ok (At (min at (utf8_valid_len line))) tokens e
judged_ok line (Ok found) tokens e = judged_by line found tokens (nat_lt (utf8_valid_len line) (length line)) (exceeds line found) refl refl e

-- neither of two tests
pub neither : (a b : Bool) → (a || b) ≡ false → (a ≡ false) × (b ≡ false)
neither true b h = absurd (cc)
neither false b h = (refl, h)

pub short_names : (line : List ℕ) (tokens : List Token) → exceeds line tokens ≡ false → list_any is_long_name tokens ≡ false
short_names line tokens h =
    let a = list_any is_long_name tokens in
    let b = list_any is_large_number tokens in
    let c = nests_deep 0 tokens in
    (neither a b (neither (a || b) c (neither (a || b || c) (nat_lt 64 (count_by (is_not line) tokens)) h).0).0).0

pub any_split : (p : Token → Bool) (token : Token) (tokens : List Token) → list_any p (token ∷ tokens) ≡ false → (p token ≡ false) × (list_any p tokens ≡ false)
any_split p token tokens h = neither (p token) (list_any p tokens) h

laid_readable : (line : List ℕ) (at : ℕ) (tokens : List Token) → IsLaidOut line at tokens → list_any is_long_name tokens ≡ false →
    (k : ℕ) (other : Token) → k < length tokens → IsReadable line (get_or tokens k other)
laid_readable line at [] h short k other le = absurd (omega arith)
laid_readable line at (token ∷ tokens) h short zero other le =
    record { some = h.1; within = h.2; stands = h.4; short = (any_split is_long_name token tokens short).0 }
laid_readable line at (token ∷ tokens) h short (suc k) other le =
    laid_readable line token.end tokens h.5 (any_split is_long_name token tokens short).1 k other (omega arith)

pub tokens_readable : (line : List ℕ) (tokens : List Token) → lexed line ≡ Ok tokens → IsLaidOut (without_return line) 0 tokens →
    AreReadable (without_return line) tokens
tokens_readable line tokens e h =
    let j = judged_ok (without_return line) (tokens_of (without_return line)) tokens e in
    laid_readable (without_return line) 0 tokens h (short_names (without_return line) tokens j.within)
