-- The token at the front of a lexeme's text is the lexeme's own.
use Rattle.std.proofs.Common.{◌≡◌, ℕ, zero, suc, ◌+◌, ◌-◌, ◌^◌, ◌<◌, ◌≤◌, Bool, true, false, ◌||◌, ◌==◌, nat_lt, if◌then◌else◌, List, [], ◌∷◌, ◌++◌, length, take, drop, slice_index, slice_range, Some, refl, sym, ap, ◌∙◌, append_assoc, length-append, arith}
use Rattle.std.specs.Prelude.{decimal, flat_map}
use Rattle.std.specs.Char.{is_ascii_digit, to_ascii_lowercase}
use Rattle.std.specs.List.{list_all, prefix_len}
use Rattle.std.proofs.lemmas.Bool.{and_parts, eqb-true}
use Rattle.std.proofs.lemmas.Grind.{common_steps}
use Rattle.std.proofs.lemmas.List.{drop-drop}
use Rattle.std.proofs.lemmas.Fmt.{decimal_nonempty, digits_decimal, digits_value-decimal}
use Rattle.std.proofs.lemmas.Str.Parse.{IsDigitsTest, IsNumeralModel, numerals_by_fold}
use Rattle.ifdb_value.specs.Name.{is_name, is_name_byte, folded}
use Rattle.ifdb_lex.specs.declared.token.TokenKind.{TokenKind}
use Rattle.ifdb_lex.specs.declared.token.TokenKind.TheVariants as kind
use Rattle.ifdb_lex.specs.Front.{begins_word, is_word_byte, word, decimal as value_of, capped, number, closing, closed, quoted, front}
use Rattle.ifdb_lex.specs.Line.{is_blank}
use Rattle.ifdb_syntax.specs.declared.lexeme.Lexeme.{Lexeme}
use Rattle.ifdb_syntax.specs.declared.lexeme.Lexeme.TheVariants as t
use Rattle.ifdb_syntax.specs.Spelling.{doubled, quoted as in_quotes, spelling}
use Rattle.ifdb_parse.specs.Lexemes.{reserved, word_or_name, undoubled, lexeme_from}
use Rattle.ifdb_parse.proofs.back.Lighter.{Sound}

-- the kind of a lexeme's token
abbrev pub token_kind : Lexeme → TokenKind
token_kind (t.Number n) = kind.Number n
token_kind (t.Quoted w) = kind.Text
token_kind t.Open = kind.Symbol 40
token_kind t.Close = kind.Symbol 41
token_kind t.Comma = kind.Symbol 44
token_kind t.Dot = kind.Symbol 46
token_kind t.Equal = kind.Symbol 61
token_kind t.NotEqual = kind.NotEqual
token_kind t.Less = kind.Symbol 60
token_kind t.AtMost = kind.AtMost
token_kind t.Greater = kind.Symbol 62
token_kind t.AtLeast = kind.AtLeast
token_kind t.Plus = kind.Symbol 43
token_kind t.Minus = kind.Symbol 45
token_kind t.Star = kind.Symbol 42
token_kind t.Semicolon = kind.Symbol 59
token_kind _ = kind.Word

-- the byte behind most lexemes: none (0), a space, `(`, `)`, `,` or `.`
abbrev pub is_end : ℕ → Bool
is_end b = b == 0 || b == 32 || b == 40 || b == 41 || b == 44 || b == 46

-- what has to follow a lexeme's text so that its token ends there
abbrev pub Follows : Lexeme → List ℕ → Type 0
Follows t.Open rest = Unit {0}
Follows t.Dot rest = Unit {0}
Follows t.Minus rest = Unit {0}
Follows _ rest = is_end (slice_index rest 0) ≡ true

-- as nothing does
pub ends_at_end : (x : Lexeme) → Follows x []
ends_at_end t.Open = tt
ends_at_end t.Dot = tt
ends_at_end t.Minus = tt
ends_at_end _ = refl

-- a token that begins with this text, and ends with it
pub record Stands (text : List ℕ) (of : TokenKind) (rest : List ℕ) : Type 0 where
  pub front_is : front (text ++ rest) ≡ Some (of, length text)
  pub first : is_blank (slice_index (text ++ rest) 0) ≡ false
  pub some : 0 < length text

-- ---- words

prefix_all : (p : ℕ → Bool) (w rest : List ℕ) → list_all p w ≡ true → p (slice_index rest 0) ≡ false → prefix_len p (w ++ rest) ≡ length w
prefix_all p [] [] h e = refl
prefix_all p [] (b ∷ rest) h e = rw e refl
prefix_all p (b ∷ w) rest h e =
    let ab = and_parts (p b) (list_all p w) h in
    let more = prefix_all p w rest ab.1 e in
    rw ab.0 (omega arith)

end_is_no_word : (b : ℕ) → is_end b ≡ true → (is_word_byte b ≡ false) × (is_ascii_digit b ≡ false) × ((b == 39) ≡ false) × ((b == 62) ≡ false) ×
    ((b == 61) ≡ false)
end_is_no_word b h = (
  grind (arith, common_steps),
  grind (arith, common_steps),
  grind (arith, common_steps),
  grind (arith, common_steps),
  grind
      (arith, common_steps),
)

begins_no_blank : (b : ℕ) → begins_word b ≡ true → is_blank b ≡ false
begins_no_blank b h = grind (arith, common_steps)

word_stands : (w rest : List ℕ) → begins_word (slice_index w 0) ≡ true → list_all is_word_byte w ≡ true → is_end (slice_index rest 0) ≡ true →
    Stands w kind.Word rest
word_stands [] rest begins all ends = absurd (cc)
word_stands (b ∷ w) rest begins all ends = record {
  front_is =
      let len = prefix_all is_word_byte (b ∷ w) rest all (end_is_no_word (slice_index rest 0) ends).0 in
      rw begins (ap (λ n. Some (kind.Word, n)) len);
  first = begins_no_blank b begins;
  some = omega arith;
}

-- ---- names

pub record NameParts (n : List ℕ) : Type 0 where
  pub some : (length n == 0) ≡ false
  pub short : nat_lt 63 (length n) ≡ false
  pub no_digit : is_ascii_digit (slice_index n 0) ≡ false
  pub all : list_all is_name_byte n ≡ true

name_parts_by : (n : List ℕ) (none long digit : Bool) → (length n == 0) ≡ none → nat_lt 63 (length n) ≡ long → is_ascii_digit (slice_index n 0) ≡ digit →
    (if none then false else (if long then false else (if digit then false else list_all is_name_byte n))) ≡ true → NameParts n
name_parts_by n true long digit a b c h = absurd (cc)
name_parts_by n false true digit a b c h = absurd (cc)
name_parts_by n false false true a b c h = absurd (cc)
name_parts_by n false false false a b c h = record { some = a; short = b; no_digit = c; all = h }

pub name_parts : (n : List ℕ) → is_name n ≡ true → NameParts n
name_parts n h = name_parts_by n (length n == 0) (nat_lt 63 (length n)) (is_ascii_digit (slice_index n 0)) refl refl refl h

name_byte : (b : ℕ) → is_name_byte b ≡ true → (is_word_byte b ≡ true) × (to_ascii_lowercase b ≡ b) × (is_ascii_digit b ≡ false → begins_word b ≡ true)
name_byte b h = (grind (arith, common_steps), grind (arith, common_steps), λ e. grind (arith, common_steps))

all_words : (n : List ℕ) → list_all is_name_byte n ≡ true → list_all is_word_byte n ≡ true
all_words [] h = refl
all_words (b ∷ n) h = let ab = and_parts (is_name_byte b) (list_all is_name_byte n) h in rw (name_byte b ab.0).0 (all_words n ab.1)

pub folded_name : (n : List ℕ) → list_all is_name_byte n ≡ true → folded n ≡ n
folded_name [] h = refl
folded_name (b ∷ n) h =
    let ab = and_parts (is_name_byte b) (list_all is_name_byte n) h in
    ap (λ (z : ℕ). z ∷ folded n) (name_byte b ab.0).1 ∙ ap (λ (z : List ℕ). b ∷ z) (folded_name n ab.1)

name_begins : (n : List ℕ) → NameParts n → begins_word (slice_index n 0) ≡ true
name_begins [] h = absurd (cc (h.some))
name_begins (b ∷ n) h = (name_byte b (and_parts (is_name_byte b) (list_all is_name_byte n) h.all).0).2 h.no_digit

-- ---- numbers

digits_test : IsDigitsTest (λ ds. list_all is_ascii_digit ds ≡ true)
digits_test = record {
  empty = refl;
  parts = λ c cs h. let ab = and_parts (is_ascii_digit c) (list_all is_ascii_digit cs) h in (grind (arith, common_steps), ab.1);
  more = λ c cs r h. let d : is_ascii_digit c ≡ true = grind (arith, common_steps) in rw d h;
}

own : IsNumeralModel (λ ds. list_all is_ascii_digit ds ≡ true) (value_of 0)
own = numerals_by_fold (λ ds. list_all is_ascii_digit ds ≡ true) digits_test value_of (record { empty = λ n. refl; more = λ n c cs r. refl })

digit_begins : (b : ℕ) → is_ascii_digit b ≡ true → (begins_word b ≡ false) × (is_blank b ≡ false)
digit_begins b h = (grind (arith, common_steps), grind (arith, common_steps))

take_front : (w rest : List ℕ) → take (length w) (w ++ rest) ≡ w
take_front [] rest = refl
take_front (b ∷ w) rest = ap (λ (z : List ℕ). b ∷ z) (take_front w rest)

front_digit : (text : List ℕ) → begins_word (slice_index text 0) ≡ false → is_ascii_digit (slice_index text 0) ≡ true → front text ≡ Some (number text)
front_digit text other digit = rw (other, digit) refl

digits_stand : (ds rest : List ℕ) (n : ℕ) → list_all is_ascii_digit ds ≡ true → 0 < length ds → value_of 0 ds ≡ n → n ≤ 2 ^ 63 →
    is_end (slice_index rest 0) ≡ true → Stands ds (kind.Number n) rest
digits_stand [] rest n all some is le ends = absurd (omega arith)
digits_stand (b ∷ ds) rest n all some is le ends =
    let digit = (and_parts (is_ascii_digit b) (list_all is_ascii_digit ds) all).0 in
    let d = digit_begins b digit in
    let len : prefix_len is_ascii_digit ((b ∷ ds) ++ rest) ≡ length (b ∷ ds) =
    prefix_all is_ascii_digit (b ∷ ds) rest all (end_is_no_word (slice_index rest 0) ends).1 in
    let val : capped (value_of 0 (take (length (b ∷ ds)) ((b ∷ ds) ++ rest))) ≡ n =
    ap (λ (z : List ℕ). capped (value_of 0 z)) (take_front (b ∷ ds) rest) ∙ (ap capped is ∙ omega arith) in
    record {
      front_is = front_digit ((b ∷ ds) ++ rest) d.0 digit
          ∙ (ap (λ (m : ℕ). Some (kind.Number (capped (value_of 0 (take m ((b ∷ ds) ++ rest)))), m)) len
          ∙ ap (λ (m : ℕ). Some (kind.Number m, length (b ∷ ds))) val);
      first = d.1;
      some = some;
    }

pub decimal_digits : (n : ℕ) → n < 2 ^ 64 → list_all is_ascii_digit (decimal n) ≡ true
decimal_digits n small = digits_decimal own n small

number_stands : (n : ℕ) (rest : List ℕ) → n ≤ 2 ^ 63 → is_end (slice_index rest 0) ≡ true → Stands (decimal n) (kind.Number n) rest
number_stands n rest le ends = let small : n < 2 ^ 64 = omega arith in
    digits_stand (decimal n) rest n (digits_decimal own n small) (decimal_nonempty n small) (digits_value-decimal own n small) le ends

-- ---- texts

-- the quotes within a text are doubled, so the first single one closes it
closing_doubled : (w : List ℕ) (n : ℕ) (rest : List ℕ) → (slice_index rest 0 == 39) ≡ false →
    closing n (flat_map doubled w ++ 39 ∷ rest) ≡ Some (n + length (flat_map doubled w) + 1)
closing_doubled [] n [] e = ap (λ (m : ℕ). Some m) (omega arith)
closing_doubled [] n (b ∷ rest) e = rw e (ap (λ (m : ℕ). Some m) (omega arith))
closing_doubled (b ∷ w) n rest e = closing_more b w n rest (b == 39) refl (closing_doubled w (n + 2) rest e) (closing_doubled w (n + 1) rest e)
  where
    -- past one byte that is no quote
    past : (b n : ℕ) (text : List ℕ) → (b == 39) ≡ false → 0 < length text → closing n (b ∷ text) ≡ closing (n + 1) text
    past b n [] other some = absurd (omega arith)
    past b n (c ∷ text) other some = rw other refl

    ends_some : (w rest : List ℕ) → 0 < length (w ++ 39 ∷ rest)
    ends_some [] rest = omega arith
    ends_some (c ∷ w) rest = omega arith

    closing_more : (b : ℕ) (w : List ℕ) (n : ℕ) (rest : List ℕ) (test : Bool) → (b == 39) ≡ test →
        closing (n + 2) (flat_map doubled w ++ 39 ∷ rest) ≡ Some (n + 2 + length (flat_map doubled w) + 1) →
        closing (n + 1) (flat_map doubled w ++ 39 ∷ rest) ≡ Some (n + 1 + length (flat_map doubled w) + 1) →
        closing n (flat_map doubled (b ∷ w) ++ 39 ∷ rest) ≡ Some (n + length (flat_map doubled (b ∷ w)) + 1)
    closing_more b w n rest true is two one = rw is (two ∙ ap (λ (m : ℕ). Some m) (omega arith))
    closing_more b w n rest false is two one = rw is (past b n (flat_map doubled w ++ 39 ∷ rest) is (ends_some (flat_map doubled w) rest)
        ∙ (one ∙ ap (λ (m : ℕ). Some m) (omega arith)))

undoubled_doubled : (w : List ℕ) → undoubled (flat_map doubled w) ≡ w
undoubled_doubled [] = refl
undoubled_doubled (b ∷ w) = by_byte b w (b == 39) refl (undoubled_doubled w)
  where
    past : (b : ℕ) (text : List ℕ) → (b == 39) ≡ false → undoubled (b ∷ text) ≡ b ∷ undoubled text
    past b [] other = refl
    past b (c ∷ text) other = rw other refl

    by_byte : (b : ℕ) (w : List ℕ) (test : Bool) → (b == 39) ≡ test → undoubled (flat_map doubled w) ≡ w → undoubled (flat_map doubled (b ∷ w)) ≡ b ∷ w
    by_byte b w true is more = rw is (ap (λ (z : List ℕ). 39 ∷ z) more ∙ ap (λ (z : ℕ). z ∷ w) (sym (eqb-true b 39 is)))
    by_byte b w false is more = rw is (past b (flat_map doubled w) is ∙ ap (λ (z : List ℕ). b ∷ z) more)

front_quote : (text : List ℕ) → front (39 ∷ text) ≡ quoted (39 ∷ text)
front_quote text = refl

text_stands : (w rest : List ℕ) → is_end (slice_index rest 0) ≡ true → Stands (in_quotes w) kind.Text rest
text_stands w rest ends = record {
  front_is =
      let other = (end_is_no_word (slice_index rest 0) ends).2 in
      let text : in_quotes w ++ rest ≡ 39 ∷ (flat_map doubled w ++ 39 ∷ rest) =
      ap (λ (z : List ℕ). 39 ∷ z) (append_assoc (flat_map doubled w) (39 ∷ []) rest) in
      let len : 1 + length (flat_map doubled w) + 1 ≡ length (in_quotes w) = (let e = length-append (flat_map doubled w) (39 ∷ []) in omega arith) in
      ap front text ∙ (ap closed (closing_doubled w 1 rest other) ∙ ap (λ (m : ℕ). Some (kind.Text, m)) len);
  first = refl;
  some = omega arith;
}

-- ---- all lexemes

less_stands : (rest : List ℕ) → is_end (slice_index rest 0) ≡ true → Stands (60 ∷ []) (kind.Symbol 60) rest
less_stands rest ends = let e = end_is_no_word (slice_index rest 0) ends in record { front_is = rw (e.3, e.4) refl; first = refl; some = omega arith }

greater_stands : (rest : List ℕ) → is_end (slice_index rest 0) ≡ true → Stands (62 ∷ []) (kind.Symbol 62) rest
greater_stands rest ends = let e = end_is_no_word (slice_index rest 0) ends in record { front_is = rw e.4 refl; first = refl; some = omega arith }

pub stands : (x : Lexeme) → Sound x → (rest : List ℕ) → Follows x rest → Stands (spelling x) (token_kind x) rest
stands (t.Name n) sound rest ends = let p = name_parts n sound.0 in word_stands n rest (name_begins n p) (all_words n p.all) ends
stands (t.Number n) sound rest ends = number_stands n rest sound ends
stands (t.Quoted w) sound rest ends = text_stands w rest ends
stands t.Open sound rest ends = record { front_is = refl; first = refl; some = omega arith }
stands t.Close sound rest ends = record { front_is = refl; first = refl; some = omega arith }
stands t.Comma sound rest ends = record { front_is = refl; first = refl; some = omega arith }
stands t.Dot sound rest ends = record { front_is = refl; first = refl; some = omega arith }
stands t.Equal sound rest ends = record { front_is = refl; first = refl; some = omega arith }
stands t.NotEqual sound rest ends = record { front_is = refl; first = refl; some = omega arith }
stands t.Less sound rest ends = less_stands rest ends
stands t.AtMost sound rest ends = record { front_is = refl; first = refl; some = omega arith }
stands t.Greater sound rest ends = greater_stands rest ends
stands t.AtLeast sound rest ends = record { front_is = refl; first = refl; some = omega arith }
stands t.Plus sound rest ends = record { front_is = refl; first = refl; some = omega arith }
stands t.Minus sound rest ends = record { front_is = refl; first = refl; some = omega arith }
stands t.Star sound rest ends = record { front_is = refl; first = refl; some = omega arith }
stands t.Semicolon sound rest ends = record { front_is = refl; first = refl; some = omega arith }
stands word sound rest ends = word_stands (spelling word) rest refl refl ends

-- ---- what such a token says

word_says : (w : List ℕ) (x : Lexeme) (line : List ℕ) (start end : ℕ) → word_or_name w (reserved w) ≡ x → slice_range line start end ≡ w →
    lexeme_from line start end kind.Word ≡ x
word_says w x line start end is e = ap (λ (z : List ℕ). word_or_name z (reserved z)) e ∙ is

name_says : (n : List ℕ) → Sound (t.Name n) → word_or_name n (reserved n) ≡ t.Name n
name_says n sound = ap (word_or_name n) sound.1 ∙ ap (λ (z : List ℕ). t.Name z) (folded_name n (name_parts n sound.0).all)

abbrev tail_of : List ℕ → List ℕ
tail_of [] = []
tail_of (b ∷ text) = text

-- what begins a text begins it
front_of : (mid more text : List ℕ) (n : ℕ) → take n text ≡ mid ++ more → take (length mid) text ≡ mid
front_of [] more text n e = refl
front_of (b ∷ mid) more [] zero e = absurd (cc)
front_of (b ∷ mid) more [] (suc n) e = absurd (cc)
front_of (b ∷ mid) more (c ∷ text) zero e = absurd (cc)
front_of (b ∷ mid) more (c ∷ text) (suc n) e =
    let first : c ≡ b = ap (λ z. slice_index z 0) e in
    ap (λ (z : List ℕ). c ∷ z) (front_of mid more text n (rests e)) ∙ ap (λ (z : ℕ). z ∷ mid) first
  where
    rests : c ∷ take n text ≡ b ∷ (mid ++ more) → take n text ≡ mid ++ more
    rests e = ap tail_of e

-- between the quotes
inner : (mid text : List ℕ) (n : ℕ) → take n text ≡ 39 ∷ (mid ++ 39 ∷ []) → take (length mid) (drop 1 text) ≡ mid
inner mid [] zero e = absurd (cc)
inner mid [] (suc n) e = absurd (cc)
inner mid (c ∷ text) zero e = absurd (cc)
inner mid (c ∷ text) (suc n) e = front_of mid (39 ∷ []) text n (rests e)
  where
    rests : c ∷ take n text ≡ 39 ∷ (mid ++ 39 ∷ []) → take n text ≡ mid ++ 39 ∷ []
    rests e = ap tail_of e

text_says : (w line : List ℕ) (at : ℕ) → slice_range line at (at + length (in_quotes w)) ≡ in_quotes w →
    lexeme_from line at (at + length (in_quotes w)) kind.Text ≡ t.Quoted w
text_says w line at e =
    let mid = flat_map doubled w in
    let size : length (in_quotes w) ≡ length mid + 2 = (let k = length-append mid (39 ∷ []) in omega arith) in
    let len : at + length (in_quotes w) - 1 - (at + 1) ≡ length mid = omega arith in
    let within : slice_range line (at + 1) (at + length (in_quotes w) - 1) ≡ mid =
    ap (λ (m : ℕ). take m (drop (at + 1) line)) len ∙ (ap (take (length mid)) (sym (drop-drop 1 at line))
    ∙ inner mid (drop at line) (at + length (in_quotes w) - at) e) in
    ap (λ (z : List ℕ). t.Quoted (undoubled z)) within ∙ ap (λ (z : List ℕ). t.Quoted z) (undoubled_doubled w)

pub says : (x : Lexeme) → Sound x → (line : List ℕ) (at : ℕ) → slice_range line at (at + length (spelling x)) ≡ spelling x →
    lexeme_from line at (at + length (spelling x)) (token_kind x) ≡ x
unfolding reserved
says (t.Name n) sound line at e = word_says n (t.Name n) line at (at + length n) (name_says n sound) e
says (t.Number n) sound line at e = refl
says (t.Quoted w) sound line at e = text_says w line at e
says t.Open sound line at e = refl
says t.Close sound line at e = refl
says t.Comma sound line at e = refl
says t.Dot sound line at e = refl
says t.Equal sound line at e = refl
says t.NotEqual sound line at e = refl
says t.Less sound line at e = refl
says t.AtMost sound line at e = refl
says t.Greater sound line at e = refl
says t.AtLeast sound line at e = refl
says t.Plus sound line at e = refl
says t.Minus sound line at e = refl
says t.Star sound line at e = refl
says t.Semicolon sound line at e = refl
says word sound line at e = word_says (spelling word) word line at (at + length (spelling word)) refl e
