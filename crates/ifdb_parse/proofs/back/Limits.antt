-- The tokens of a line and its lexemes pass the same limits.
use Rattle.std.proofs.Common.{◌≡◌, ℕ, zero, suc, ◌+◌, ◌-◌, ◌^◌, ◌<◌, ◌≤◌, Bool, true, false, ◌&&◌, ◌==◌, nat_lt, count_by, if◌then◌else◌, List, [], ◌∷◌, length, slice_range, get_or, Option, Some, None, codes, refl, sym, ap, subst, ◌∙◌, arith}
use Rattle.std.specs.Char.{to_ascii_lowercase}
use Rattle.std.specs.List.{list_any, list_all}
use Rattle.std.specs.Str.{IsUtf8, bytes_eq, str_to_ascii_lowercase, str_eq_ignore_ascii_case}
use Rattle.std.proofs.lemmas.Bool.{and_parts}
use Rattle.std.proofs.lemmas.Bool.Decides.{nat_tests}
use Rattle.std.proofs.lemmas.List.Sums.{sum_by-cons}
use Rattle.std.proofs.lemmas.Str.{IsUtf8-between}
use Rattle.std.proofs.lemmas.Str.Ascii.{lowercase-lowercase}
use Rattle.ifdb_value.specs.Name.{is_name, folded}
use Rattle.ifdb_lex.specs.declared.token.Token.{Token}
use Rattle.ifdb_lex.specs.declared.token.TokenKind.{TokenKind}
use Rattle.ifdb_lex.specs.declared.token.TokenKind.TheVariants as kind
use Rattle.ifdb_lex.specs.Limits.{is_word, is_long_name, is_large, is_large_number, open_behind, nests_deep, is_not, exceeds}
use Rattle.ifdb_syntax.specs.declared.lexeme.Lexeme.{Lexeme}
use Rattle.ifdb_syntax.specs.declared.lexeme.Lexeme.TheVariants as t
use Rattle.ifdb_syntax.specs.Words.{Lexemes}
use Rattle.ifdb_syntax.specs.Spelling.{word_text, spelling}
use Rattle.ifdb_parse.specs.Lexemes.{reserved_words, spelled_among, reserved, word_or_name, undoubled, symbol_of, lexeme_from, lexeme_of, lexemes_of}
use Rattle.ifdb_parse.specs.Readable.{IsReadable}
use Rattle.ifdb_parse.proofs.Readable.{any_split, word_at, text_at}
use Rattle.ifdb_parse.proofs.back.Lighter.{Sound, AllSound, level, Shallow, not_count, nots}
use Rattle.ifdb_parse.proofs.back.Fronts.{token_kind, name_parts}
use Rattle.ifdb_parse.proofs.back.Reads.{AllStandFor}
use Rattle.ifdb_parse.proofs.back.Texts.{undoubled_utf8}

-- ---- from the lexemes of canonical text to its tokens

long_not : (x : Lexeme) → Sound x → (is_word (token_kind x) && nat_lt 63 (length (spelling x))) ≡ false
long_not (t.Name n) sound = (name_parts n sound.0).short
long_not (t.Number n) sound = refl
long_not (t.Quoted w) sound = refl
long_not word sound = refl

large_not : (x : Lexeme) → Sound x → is_large (token_kind x) ≡ false
large_not (t.Name n) sound = refl
large_not (t.Number n) sound = grind (arith, nat_tests)
large_not (t.Quoted w) sound = refl
large_not word sound = refl

level_same : (d : ℕ) (x : Lexeme) → open_behind d (token_kind x) ≡ level d x
level_same d (t.Name n) = refl
level_same d (t.Number n) = refl
level_same d (t.Quoted w) = refl
level_same d word = refl

any_none : (p : Token → Bool) (token : Token) (tokens : List Token) → p token ≡ false → list_any p tokens ≡ false → list_any p (token ∷ tokens) ≡ false
any_none p token tokens h k = rw (h, k) refl

no_long : (line : List ℕ) (tokens : List Token) (s : Lexemes) → AllStandFor line tokens s → AllSound s → list_any is_long_name tokens ≡ false
no_long line [] [] h sound = refl
no_long line [] (x ∷ s) h sound = absurd h
no_long line (token ∷ tokens) [] h sound = absurd h
no_long line (token ∷ tokens) (x ∷ s) h sound =
    any_none is_long_name token tokens (ap (λ (k : TokenKind). is_word k && nat_lt 63 (token.end - token.start)) h.0.kind_is
    ∙ (ap (λ (n : ℕ). is_word (token_kind x) && nat_lt 63 n) h.0.len_is ∙ long_not x sound.0))
    (no_long line tokens s h.1 sound.1)

no_large : (line : List ℕ) (tokens : List Token) (s : Lexemes) → AllStandFor line tokens s → AllSound s → list_any is_large_number tokens ≡ false
no_large line [] [] h sound = refl
no_large line [] (x ∷ s) h sound = absurd h
no_large line (token ∷ tokens) [] h sound = absurd h
no_large line (token ∷ tokens) (x ∷ s) h sound = any_none is_large_number token tokens (ap is_large h.0.kind_is ∙ large_not x sound.0)
    (no_large line tokens s h.1 sound.1)

not_deep : (line : List ℕ) (tokens : List Token) (s : Lexemes) (d : ℕ) → AllStandFor line tokens s → Shallow d s → nests_deep d tokens ≡ false
not_deep line [] [] d h low = refl
not_deep line [] (x ∷ s) d h low = absurd h
not_deep line (token ∷ tokens) [] d h low = absurd h
not_deep line (token ∷ tokens) (x ∷ s) d h low =
    let here : open_behind d token.kind ≡ level d x = ap (open_behind d) h.0.kind_is ∙ level_same d x in
    let within : nat_lt 32 (level d x) ≡ false = not_more (level d x) low.0 in
    rw (here, within) (not_deep line tokens s (level d x) h.1 low.1)
  where
    not_more : (n : ℕ) → n ≤ 32 → nat_lt 32 n ≡ false
    not_more n le = grind (arith, nat_tests)

no_word : (test : Bool) (w : Lexeme) (o : Option Lexeme) → (if test then Some w else o) ≡ None → (test ≡ false) × (o ≡ None)
no_word true w o e = absurd (cc)
no_word false w o e = (refl, e)

-- a word at some place of the list is not what this text spells, where it spells none
miss_at : (text : List ℕ) (ws : Lexemes) (k : ℕ) → k < length ws → spelled_among text ws ≡ None →
    str_eq_ignore_ascii_case text (word_text (get_or ws k t.Not)) ≡ false
miss_at text [] k inside none = absurd (omega arith)
miss_at text (w ∷ ws) zero inside none = (no_word (str_eq_ignore_ascii_case text (word_text w)) w (spelled_among text ws) none).0
miss_at text (w ∷ ws) (suc k) inside none = miss_at text ws k (omega arith)
    (no_word (str_eq_ignore_ascii_case text (word_text w)) w (spelled_among text ws) none).1

not_spelled : (text : List ℕ) → reserved text ≡ None → str_eq_ignore_ascii_case text (codes "not") ≡ false
unfolding reserved
not_spelled text none = miss_at text reserved_words 31 (omega arith) none

-- how often the word NOT stands there
count_not : (x : Lexeme) → Sound x → (is_word (token_kind x) && str_eq_ignore_ascii_case (spelling x) (codes "not")) ≡ (not_count x == 1)
count_not (t.Name n) sound = not_spelled n sound.1
count_not (t.Number n) sound = refl
count_not (t.Quoted w) sound = refl
count_not word sound = refl

count_one : (x : Lexeme) → (if not_count x == 1 then 1 else 0) ≡ not_count x
count_one t.Not = refl
count_one _ = refl

same_nots : (line : List ℕ) (tokens : List Token) (s : Lexemes) → AllStandFor line tokens s → AllSound s → count_by (is_not line) tokens ≡ nots s
same_nots line [] [] h sound = refl
same_nots line [] (x ∷ s) h sound = absurd h
same_nots line (token ∷ tokens) [] h sound = absurd h
same_nots line (token ∷ tokens) (x ∷ s) h sound =
    let is : is_not line token ≡ (not_count x == 1) =
    ap (λ (k : TokenKind). is_word k && str_eq_ignore_ascii_case (slice_range line token.start token.end) (codes "not")) h.0.kind_is
    ∙ (ap (λ (w : List ℕ). is_word (token_kind x) && str_eq_ignore_ascii_case w (codes "not")) h.0.text_is ∙ count_not x sound.0) in
    let here : (if is_not line token then 1 else 0) ≡ not_count x = ap (λ (b : Bool). if b then 1 else 0) is ∙ count_one x in
    let more = same_nots line tokens s h.1 sound.1 in
    sum_by-cons (λ x. if is_not line x then 1 else 0) token tokens
    ∙ (ap (λ (n : ℕ). n + count_by (is_not line) tokens) here ∙ ap (λ (n : ℕ). not_count x + n) more)

-- canonical text passes no limit of its tokens
pub passes_none : (line : List ℕ) (tokens : List Token) (s : Lexemes) → AllStandFor line tokens s → AllSound s → Shallow 0 s → nots s ≤ 64 →
    exceeds line tokens ≡ false
passes_none line tokens s h sound low few =
    let count : nat_lt 64 (count_by (is_not line) tokens) ≡ false = not_more (count_by (is_not line) tokens) (omega (arith, same_nots line tokens s h sound)) in
    rw (no_long line tokens s h sound, no_large line tokens s h sound, not_deep line tokens s 0 h low, count) refl
  where
    not_more : (n : ℕ) → n ≤ 64 → nat_lt 64 n ≡ false
    not_more n le = grind (arith, nat_tests)

-- ---- from the tokens of a line to its lexemes

-- a lexeme that is no parenthesis, no NOT, and sound
record Plain (x : Lexeme) : Type 0 where
  sound : Sound x
  flat : (d : ℕ) → level d x ≡ d
  none : not_count x ≡ 0

-- what is known of the lexeme of a token
record Limited (line : List ℕ) (token : Token) : Type 0 where
  sound : Sound (lexeme_of line token)
  levels : (d : ℕ) → level d (lexeme_of line token) ≡ open_behind d token.kind
  counts : not_count (lexeme_of line token) ≤ (if is_not line token then 1 else 0)

-- reserved words, and no others
is_reserved : Lexeme → Bool
is_reserved (t.Name n) = false
is_reserved (t.Number n) = false
is_reserved (t.Quoted w) = false
is_reserved t.Open = false
is_reserved t.Close = false
is_reserved _ = true

reserved_sound : (x : Lexeme) → is_reserved x ≡ true → Sound x × ((d : ℕ) → level d x ≡ d)
unfolding is_reserved
reserved_sound (t.Name n) h = absurd (cc)
reserved_sound (t.Number n) h = absurd (cc)
reserved_sound (t.Quoted w) h = absurd (cc)
reserved_sound t.Open h = absurd (cc)
reserved_sound t.Close h = absurd (cc)
reserved_sound _ h = (tt, λ d. refl)

-- a word that is found is one of the list, and is what the text spells
record Found (text : List ℕ) (w : Lexeme) : Type 0 where
  listed : is_reserved w ≡ true
  spelled : str_eq_ignore_ascii_case text (word_text w) ≡ true

found_by : (text : List ℕ) (w x : Lexeme) (o : Option Lexeme) (test : Bool) → str_eq_ignore_ascii_case text (word_text w) ≡ test → is_reserved w ≡ true →
    (o ≡ Some x → Found text x) → (if test then Some w else o) ≡ Some x → Found text x
found_by text w x o true is word more e =
    let same : w ≡ x = cc in
    subst (Found text) same (record { listed = word; spelled = is })
found_by text w x o false is word more e = more e

found_among : (text : List ℕ) (ws : Lexemes) (x : Lexeme) → list_all is_reserved ws ≡ true → spelled_among text ws ≡ Some x → Found text x
found_among text [] x all e = absurd (cc)
found_among text (w ∷ ws) x all e =
    let ab = and_parts (is_reserved w) (list_all is_reserved ws) all in
    found_by text w x (spelled_among text ws) (str_eq_ignore_ascii_case text (word_text w)) refl ab.0 (λ more. found_among text ws x ab.1 more) e

found : (text : List ℕ) (x : Lexeme) → reserved text ≡ Some x → Found text x
unfolding reserved is_reserved
found text x e = found_among text reserved_words x refl e

-- a folded name spells what the name spells
folded_same : (text : List ℕ) → str_to_ascii_lowercase (folded text) ≡ str_to_ascii_lowercase text
folded_same [] = refl
folded_same (b ∷ text) = ap (λ (z : ℕ). z ∷ str_to_ascii_lowercase (folded text)) (lowercase-lowercase b)
    ∙ ap (λ (z : List ℕ). to_ascii_lowercase b ∷ z) (folded_same text)

among_folded : (text : List ℕ) (ws : Lexemes) → spelled_among (folded text) ws ≡ spelled_among text ws
among_folded text [] = refl
among_folded text (w ∷ ws) =
    ap (λ (z : List ℕ). if bytes_eq z (str_to_ascii_lowercase (word_text w)) then Some w else spelled_among (folded text) ws) (folded_same text)
    ∙ ap (λ (o : Option Lexeme). if str_eq_ignore_ascii_case text (word_text w) then Some w else o) (among_folded text ws)

reserved_folded : (text : List ℕ) → reserved (folded text) ≡ reserved text
unfolding reserved
reserved_folded text = among_folded text reserved_words

word_count : (text : List ℕ) (x : Lexeme) → str_eq_ignore_ascii_case text (word_text x) ≡ true →
    not_count x ≤ (if str_eq_ignore_ascii_case text (codes "not") then 1 else 0)
word_count text t.Not spelled = rw spelled (omega arith)
word_count text _ spelled = omega arith

-- of a word
record LimitedWord (text : List ℕ) (x : Lexeme) : Type 0 where
  sound : Sound x
  levels : (d : ℕ) → level d x ≡ d
  counts : not_count x ≤ (if str_eq_ignore_ascii_case text (codes "not") then 1 else 0)

word_limited : (text : List ℕ) (o : Option Lexeme) → reserved text ≡ o → is_name (folded text) ≡ true → LimitedWord text (word_or_name text o)
word_limited text (Some x) is name =
    let f = found text x is in
    let r = reserved_sound x f.listed in
    record { sound = r.0; levels = r.1; counts = word_count text x f.spelled }
word_limited text None is name = record { sound = (name, reserved_folded text ∙ is); levels = λ d. refl; counts = omega arith }

-- of a symbol
either_plain : (test : Bool) (x y : Lexeme) → Plain x → Plain y → Plain (if test then x else y)
either_plain true x y h k = h
either_plain false x y h k = k

plain : (x : Lexeme) → Sound x → ((d : ℕ) → level d x ≡ d) → not_count x ≡ 0 → Plain x
plain x s f n = record { sound = s; flat = f; none = n }

record LimitedSymbol (b : ℕ) : Type 0 where
  sound : Sound (symbol_of b)
  levels : (d : ℕ) → level d (symbol_of b) ≡ open_behind d (kind.Symbol b)
  none : not_count (symbol_of b) ≡ 0

-- the symbols that are no parentheses
other_symbol : ℕ → Lexeme
other_symbol b =
    if b == 44 then t.Comma
    else (if b == 46 then t.Dot
    else (if b == 61 then t.Equal
    else (if b == 60 then t.Less
    else (if b == 62 then t.Greater
    else (if b == 43 then t.Plus
    else (if b == 45 then t.Minus
    else (if b == 42 then t.Star
    else t.Semicolon)))))))

other_plain : (b : ℕ) → Plain (other_symbol b)
unfolding other_symbol
other_plain b =
    either_plain (b == 44) t.Comma _ (plain t.Comma tt (λ d. refl) refl) (either_plain (b == 46) t.Dot _ (plain t.Dot tt (λ d. refl) refl)
    (either_plain (b == 61) t.Equal _ (plain t.Equal tt (λ d. refl) refl) (either_plain (b == 60) t.Less _ (plain t.Less tt (λ d. refl) refl)
    (either_plain (b == 62) t.Greater _ (plain t.Greater tt (λ d. refl) refl) (either_plain (b == 43) t.Plus _ (plain t.Plus tt (λ d. refl) refl)
    (either_plain (b == 45) t.Minus _ (plain t.Minus tt (λ d. refl) refl) (either_plain (b == 42) t.Star t.Semicolon (plain t.Star tt (λ d. refl) refl)
    (plain t.Semicolon tt (λ d. refl) refl))))))))

symbol_by : (b : ℕ) (open_ close : Bool) → (b == 40) ≡ open_ → (b == 41) ≡ close → LimitedSymbol b
unfolding other_symbol
symbol_by b true close is also = record { sound = rw is tt; levels = λ d. rw is refl; none = rw is refl }
symbol_by b false true is also = record { sound = rw (is, also) tt; levels = λ d. rw (is, also) refl; none = rw (is, also) refl }
symbol_by b false false is also =
    let p = other_plain b in
    record { sound = rw (is, also) p.sound; levels = λ d. rw (is, also) (p.flat d); none = rw (is, also) p.none }

symbol_limited : (b : ℕ) → LimitedSymbol b
symbol_limited b = symbol_by b (b == 40) (b == 41) refl refl

flat_token : (line : List ℕ) (token : Token) (x : Lexeme) (k : TokenKind) → token.kind ≡ k → lexeme_of line token ≡ x → Sound x →
    ((d : ℕ) → level d x ≡ open_behind d k) → not_count x ≤ 0 → Limited line token
flat_token line token x k is same sound levels none = record {
  sound = subst Sound (sym same) sound;
  levels = λ d. ap (level d) same ∙ (levels d ∙ sym (ap (open_behind d) is));
  counts = subst (λ (y : Lexeme). not_count y ≤ (if is_not line token then 1 else 0)) (sym same) (omega (arith, none));
}

-- each token that can be read
limited_by : (line : List ℕ) (token : Token) (k : TokenKind) → token.kind ≡ k → IsUtf8 line → IsReadable line token → is_large_number token ≡ false →
    Limited line token
limited_by line token kind.Word is valid h large =
    let text = slice_range line token.start token.end in
    let w = word_limited text (reserved text) refl (word_at line token valid h is).name in
    let same : lexeme_of line token ≡ word_or_name text (reserved text) = ap (lexeme_from line token.start token.end) is in
    let not_is : is_not line token ≡ str_eq_ignore_ascii_case text (codes "not") =
    ap (λ (k : TokenKind). is_word k && str_eq_ignore_ascii_case text (codes "not")) is in
    record {
      sound = subst Sound (sym same) w.sound;
      levels = λ d. ap (level d) same ∙ (w.levels d ∙ sym (ap (open_behind d) is));
      counts = subst (λ (x : Lexeme). not_count x ≤ (if is_not line token then 1 else 0)) (sym same)
          (subst (λ (b : Bool). not_count (word_or_name text (reserved text)) ≤ (if b then 1 else 0)) (sym not_is) w.counts);
    }
limited_by line token (kind.Number n) is valid h large =
    let same : lexeme_of line token ≡ t.Number n = ap (lexeme_from line token.start token.end) is in
    let low : nat_lt (2 ^ 63) n ≡ false = sym (ap is_large is) ∙ large in
    record {
      sound = subst Sound (sym same) (not_more n low);
      levels = λ d. ap (level d) same ∙ sym (ap (open_behind d) is);
      counts = subst (λ (x : Lexeme). not_count x ≤ (if is_not line token then 1 else 0)) (sym same) (omega arith);
    }
  where
    not_more : (n : ℕ) → nat_lt (2 ^ 63) n ≡ false → n ≤ 2 ^ 63
    not_more n h = grind (arith, nat_tests)
limited_by line token kind.Text is valid h large =
    let text = slice_range line (token.start + 1) (token.end - 1) in
    let same : lexeme_of line token ≡ t.Quoted (undoubled text) = ap (lexeme_from line token.start token.end) is in
    let at_quotes = text_at line token valid h is in
    let utf8 : IsUtf8 text = IsUtf8-between line (token.start + 1) (token.end - 1) valid at_quotes.order at_quotes.open_ at_quotes.close_ in
    record {
      sound = subst Sound (sym same) (undoubled_utf8 text utf8);
      levels = λ d. ap (level d) same ∙ sym (ap (open_behind d) is);
      counts = subst (λ (x : Lexeme). not_count x ≤ (if is_not line token then 1 else 0)) (sym same) (omega arith);
    }
limited_by line token (kind.Symbol b) is valid h large =
    let same : lexeme_of line token ≡ symbol_of b = ap (lexeme_from line token.start token.end) is in
    let l = symbol_limited b in
    record {
      sound = subst Sound (sym same) l.sound;
      levels = λ d. ap (level d) same ∙ (l.levels d ∙ sym (ap (open_behind d) is));
      counts = subst (λ (x : Lexeme). not_count x ≤ (if is_not line token then 1 else 0)) (sym same) (omega (arith, l.none));
    }
limited_by line token kind.NotEqual is valid h large =
    flat_token line token t.NotEqual kind.NotEqual is (ap (lexeme_from line token.start token.end) is) tt (λ d. refl) (omega arith)
limited_by line token kind.AtMost is valid h large =
    flat_token line token t.AtMost kind.AtMost is (ap (lexeme_from line token.start token.end) is) tt (λ d. refl) (omega arith)
limited_by line token kind.AtLeast is valid h large =
    flat_token line token t.AtLeast kind.AtLeast is (ap (lexeme_from line token.start token.end) is) tt (λ d. refl) (omega arith)

limited : (line : List ℕ) (token : Token) → IsUtf8 line → IsReadable line token → is_large_number token ≡ false → Limited line token
limited line token valid h large = limited_by line token token.kind refl valid h large

-- all tokens of a line that can be read
pub record AllReadable (line : List ℕ) (tokens : List Token) : Type 0 where
  pub readable : (k : ℕ) (other : Token) → k < length tokens → IsReadable line (get_or tokens k other)
  pub small : list_any is_large_number tokens ≡ false

first_readable : (line : List ℕ) (token : Token) (tokens : List Token) → AllReadable line (token ∷ tokens) →
    IsReadable line token × (is_large_number token ≡ false) × AllReadable line tokens
first_readable line token tokens h =
    let ab = any_split is_large_number token tokens h.small in
    (h.readable 0 token (omega arith), ab.0, record { readable = λ k other inside. h.readable (suc k) other (omega arith); small = ab.1 })

pub all_sound : (line : List ℕ) (tokens : List Token) → IsUtf8 line → AllReadable line tokens → AllSound (lexemes_of line tokens)
all_sound line [] valid h = tt
all_sound line (token ∷ tokens) valid h =
    let f = first_readable line token tokens h in
    ((limited line token valid f.0 f.1).sound, all_sound line tokens valid f.2)

-- a test that fails: not more than 32
pub shallow_from : (line : List ℕ) (tokens : List Token) (d : ℕ) → IsUtf8 line → AllReadable line tokens → nests_deep d tokens ≡ false →
    Shallow d (lexemes_of line tokens)
shallow_from line [] d valid h low = tt
shallow_from line (token ∷ tokens) d valid h low =
    let f = first_readable line token tokens h in
    let l = (limited line token valid f.0 f.1).levels d in
    let now = open_behind d token.kind in
    let parts = deep_parts (nat_lt 32 now) (nests_deep now tokens) low in
    let le : now ≤ 32 = not_more now parts.0 in
    (subst (λ n. n ≤ 32) (sym l) le, subst (λ n. Shallow n (lexemes_of line tokens)) (sym l) (shallow_from line tokens now valid f.2 parts.1))
  where
    deep_parts : (a b : Bool) → (if a then true else b) ≡ false → (a ≡ false) × (b ≡ false)
    deep_parts true b e = absurd (cc)
    deep_parts false b e = (refl, e)

    not_more : (n : ℕ) → nat_lt 32 n ≡ false → n ≤ 32
    not_more n h = grind (arith, nat_tests)

pub nots_from : (line : List ℕ) (tokens : List Token) → IsUtf8 line → AllReadable line tokens → nots (lexemes_of line tokens) ≤ count_by (is_not line) tokens
nots_from line [] valid h = omega arith
nots_from line (token ∷ tokens) valid h =
    let f = first_readable line token tokens h in
    let l = (limited line token valid f.0 f.1).counts in
    let more = nots_from line tokens valid f.2 in
    let all = sum_by-cons (λ x. if is_not line x then 1 else 0) token tokens in
    omega (arith, l, more, all)
