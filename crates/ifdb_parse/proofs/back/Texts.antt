-- The canonical text of sound lexemes is UTF-8, and ends with no carriage return; and a quote of each pair may be left out of a text.
use Rattle.std.proofs.Common.{◌≡◌, ℕ, suc, ◌+◌, ◌-◌, ◌^◌, ◌<◌, Bool, true, false, ◌&&◌, ◌==◌, nat_lt, if◌then◌else◌, List, [], ◌∷◌, ◌++◌, length, slice_index, get_or, refl, sym, ap, subst, ◌∙◌, append-nil, length-append, arith, inl, inr}
use Rattle.std.specs.Prelude.{decimal, flat_map}
use Rattle.std.specs.Char.{is_ascii_digit}
use Rattle.std.specs.List.{list_all}
use Rattle.std.specs.Str.{IsUtf8, IsAscii}
use lib.Utf8.{scalar, scalars, encodes, encode}
use Rattle.std.proofs.lemmas.Bool.{and_parts, eqb-true, ltb-true}
use Rattle.std.proofs.lemmas.Bool.Decides.{nat_tests}
use Rattle.std.proofs.lemmas.Grind.{common_steps, flat_map-append}
use Rattle.std.proofs.lemmas.Fmt.{IsAscii-decimal, decimal_nonempty}
use Rattle.std.proofs.lemmas.List.{get_or-append-add}
use Rattle.std.proofs.lemmas.List.Folds.{list_all_at}
use Rattle.std.proofs.lemmas.Str.{IsUtf8-append, IsUtf8-nil, IsUtf8-from_ascii, encode_ascii, encodes-append, inside_one, length-encode, len_utf8_bounds}
use Rattle.std.proofs.lemmas.Str.Ascii.{IsAscii-nil, IsAscii-cons}
use Rattle.ifdb_value.specs.Name.{is_name_byte}
use Rattle.ifdb_lex.specs.Line.{without_return}
use Rattle.ifdb_syntax.specs.declared.lexeme.Lexeme.{Lexeme}
use Rattle.ifdb_syntax.specs.declared.lexeme.Lexeme.TheVariants as t
use Rattle.ifdb_syntax.specs.declared.edge.Edge.{Edge}
use Rattle.ifdb_syntax.specs.declared.edge.Edge.TheVariants as edge
use Rattle.ifdb_syntax.specs.Words.{Lexemes}
use Rattle.ifdb_syntax.specs.Spelling.{doubled, quoted, spelling}
use Rattle.ifdb_syntax.specs.canonical.Text.{edge_after, gap, text_behind, spaced}
use Rattle.ifdb_parse.specs.Lexemes.{undoubled}
use Rattle.ifdb_parse.proofs.back.Lighter.{Sound, AllSound}
use Rattle.ifdb_parse.proofs.back.Fronts.{stands, name_parts, decimal_digits, ends_at_end}
use Rattle.ifdb_parse.proofs.back.Reads.{gap_cases}

-- ---- quotes among characters

-- no byte of these is a quote
abbrev NoQuote : List ℕ → Type 0
NoQuote [] = Unit {0}
NoQuote (b ∷ bs) = ((b == 39) ≡ false) × NoQuote bs

no_quote_from : (bs : List ℕ) → ((k : ℕ) → k < length bs → (get_or bs k 0 == 39) ≡ false) → NoQuote bs
no_quote_from [] h = tt
no_quote_from (b ∷ bs) h = (h 0 (omega arith), no_quote_from bs (λ k inside. h (suc k) (omega arith)))

not_quote : (b c : ℕ) (test : Bool) → (b == 39) ≡ test → (b ≡ 39 → c ≡ 39) → (c == 39) ≡ false → (b == 39) ≡ false
not_quote b c false is h other = is
not_quote b c true is h other =
    let same : c ≡ 39 = h (eqb-true b 39 is) in
    absurd (cc (subst (λ (n : ℕ). (n == 39) ≡ false) same other))

encoded_no_quote : (c : ℕ) → (c == 39) ≡ false → NoQuote (encode c)
encoded_no_quote c other =
    no_quote_from (encode c) (λ k inside.
    let b = get_or (encode c) k 0 in
    not_quote b c (b == 39) refl (λ is.
    let low : get_or (encode c) k 0 < 128 = omega (arith, is) in
    inside_one c [] (encode c) k (sym (append-nil (encode c))) inside low ∙ is) other)

doubled_none : (bs : List ℕ) → NoQuote bs → flat_map doubled bs ≡ bs
doubled_none [] h = refl
doubled_none (b ∷ bs) h = rw h.0 (ap (λ (z : List ℕ). b ∷ z) (doubled_none bs h.1))

undoubled_past : (bs rest : List ℕ) → NoQuote bs → undoubled (bs ++ rest) ≡ bs ++ undoubled rest
undoubled_past [] rest h = refl
undoubled_past (b ∷ bs) rest h = past b (bs ++ rest) h.0 ∙ ap (λ (z : List ℕ). b ∷ z) (undoubled_past bs rest h.1)
  where
    past : (b : ℕ) (text : List ℕ) → (b == 39) ≡ false → undoubled (b ∷ text) ≡ b ∷ undoubled text
    past b [] other = refl
    past b (c ∷ text) other = rw other refl

-- a quote is one byte
one_quote : encode 39 ≡ 39 ∷ []
one_quote = encode_ascii 39 (omega arith)

-- ---- doubling each quote

doubled_encode : (c : ℕ) (test : Bool) → (c == 39) ≡ test → flat_map doubled (encode c) ≡ encodes (doubled c)
doubled_encode c true is =
    let same : c ≡ 39 = eqb-true c 39 is in
    subst (λ (n : ℕ). flat_map doubled (encode n) ≡ encodes (doubled n)) (sym same) (rw one_quote refl)
doubled_encode c false is = doubled_none (encode c) (encoded_no_quote c is) ∙ (sym (append-nil (encode c)) ∙ sym (rw is refl))

doubled_encodes : (cs : List ℕ) → flat_map doubled (encodes cs) ≡ encodes (flat_map doubled cs)
doubled_encodes [] = refl
doubled_encodes (c ∷ cs) =
    flat_map-append doubled (encode c) (encodes cs)
    ∙ (ap (λ (z : List ℕ). z ++ flat_map doubled (encodes cs)) (doubled_encode c (c == 39) refl)
    ∙ (ap (λ (z : List ℕ). encodes (doubled c) ++ z) (doubled_encodes cs) ∙ sym (encodes-append (doubled c) (flat_map doubled cs))))

scalars-append : (xs ys : List ℕ) → scalars xs ≡ true → scalars ys ≡ true → scalars (xs ++ ys) ≡ true
scalars-append [] ys h k = k
scalars-append (x ∷ xs) ys h k = let ab = and_parts (scalar x) (scalars xs) h in rw ab.0 (scalars-append xs ys ab.1 k)

doubled_scalar : (c : ℕ) (test : Bool) → (c == 39) ≡ test → scalar c ≡ true → scalars (doubled c) ≡ true
doubled_scalar c true is h = rw is refl
doubled_scalar c false is h = rw (is, h) refl

doubled_scalars : (cs : List ℕ) → scalars cs ≡ true → scalars (flat_map doubled cs) ≡ true
doubled_scalars [] h = refl
doubled_scalars (c ∷ cs) h =
    let ab = and_parts (scalar c) (scalars cs) h in
    scalars-append (doubled c) (flat_map doubled cs) (doubled_scalar c (c == 39) refl ab.0) (doubled_scalars cs ab.1)

doubled_utf8 : (w : List ℕ) → IsUtf8 w → IsUtf8 (flat_map doubled w)
doubled_utf8 w h = (flat_map doubled h.0, (doubled_scalars h.0 h.1.0, sym (doubled_encodes h.0) ∙ ap (flat_map doubled) h.1.1))

-- ---- keeping one of two quotes

undoubled_single : (text : List ℕ) → (slice_index text 0 == 39) ≡ false → undoubled (39 ∷ text) ≡ 39 ∷ undoubled text
undoubled_single [] other = refl
undoubled_single (b ∷ text) other = rw other refl

first_other : (bs rest : List ℕ) → NoQuote bs → 0 < length bs → (slice_index (bs ++ rest) 0 == 39) ≡ false
first_other [] rest h some = absurd (omega arith)
first_other (b ∷ bs) rest h some = h.0

encoded_quote : (c : ℕ) → (c == 39) ≡ true → encode c ≡ 39 ∷ []
encoded_quote c is = ap encode (eqb-true c 39 is) ∙ one_quote

encode_some : (c : ℕ) → 0 < length (encode c)
encode_some c = let e = length-encode c in let b = len_utf8_bounds c in omega (arith, b.0)

undoubled_last : (c : ℕ) (test : Bool) → (c == 39) ≡ test → undoubled (encode c ++ []) ≡ encode c ++ []
undoubled_last c true is = rw (encoded_quote c is) refl
undoubled_last c false is = undoubled_past (encode c) [] (encoded_no_quote c is)

undoubled_step : (c d : ℕ) (cs : List ℕ) (quote next : Bool) → (c == 39) ≡ quote → (d == 39) ≡ next → undoubled (encodes cs) ≡ encodes (undoubled cs) →
    undoubled (encodes (d ∷ cs)) ≡ encodes (undoubled (d ∷ cs)) →
    undoubled (encode c ++ encodes (d ∷ cs)) ≡ encodes (undoubled (c ∷ d ∷ cs))
undoubled_step c d cs true true is also rest more = rw (is, also, encoded_quote c is, encoded_quote d also, one_quote) (ap (λ (z : List ℕ). 39 ∷ z) rest)
undoubled_step c d cs true false is other rest more =
    let first = first_other (encode d) (encodes cs) (encoded_no_quote d other) (encode_some d) in
    ap (λ (z : List ℕ). undoubled (z ++ encodes (d ∷ cs))) (encoded_quote c is)
    ∙ (undoubled_single (encodes (d ∷ cs)) first
    ∙ (ap (λ (z : List ℕ). 39 ∷ z) more
    ∙ (ap (λ (z : List ℕ). z ++ encodes (undoubled (d ∷ cs))) (sym (encoded_quote c is)) ∙ sym (rw (is, other) refl))))
undoubled_step c d cs false next is also rest more =
    undoubled_past (encode c) (encodes (d ∷ cs)) (encoded_no_quote c is) ∙ (ap (λ (z : List ℕ). encode c ++ z) more ∙ sym (rw is refl))

undoubled_encodes : (cs : List ℕ) → undoubled (encodes cs) ≡ encodes (undoubled cs)
undoubled_encodes [] = refl
undoubled_encodes (c ∷ []) = undoubled_last c (c == 39) refl
undoubled_encodes (c ∷ d ∷ cs) = undoubled_step c d cs (c == 39) (d == 39) refl refl (undoubled_encodes cs) (undoubled_encodes (d ∷ cs))

undoubled_scalars : (cs : List ℕ) → scalars cs ≡ true → scalars (undoubled cs) ≡ true
undoubled_scalars [] h = refl
undoubled_scalars (c ∷ []) h = h
undoubled_scalars (c ∷ d ∷ cs) h =
    let a = and_parts (scalar c) (scalar d && scalars cs) h in
    let b = and_parts (scalar d) (scalars cs) a.1 in
    either_scalars (c == 39 && d == 39) (39 ∷ undoubled cs) (c ∷ undoubled (d ∷ cs)) (rw (undoubled_scalars cs b.1) refl)
    (rw (a.0, undoubled_scalars (d ∷ cs) a.1) refl)
  where
    either_scalars : (test : Bool) (x y : List ℕ) → scalars x ≡ true → scalars y ≡ true → scalars (if test then x else y) ≡ true
    either_scalars true x y h k = h
    either_scalars false x y h k = k

pub undoubled_utf8 : (w : List ℕ) → IsUtf8 w → IsUtf8 (undoubled w)
undoubled_utf8 w h = (undoubled h.0, (undoubled_scalars h.0 h.1.0, sym (undoubled_encodes h.0) ∙ ap undoubled h.1.1))

-- ---- canonical text

low_byte : ℕ → Bool
low_byte b = nat_lt b 128

ascii : (bs : List ℕ) → list_all (λ b. nat_lt b 128) bs ≡ true → IsAscii bs
ascii [] h = IsAscii-nil
ascii (b ∷ bs) h = let ab = and_parts (nat_lt b 128) (list_all (λ b. nat_lt b 128) bs) h in IsAscii-cons b bs (ltb-true b 128 ab.0) (ascii bs ab.1)

ascii_utf8 : (bs : List ℕ) → list_all (λ b. nat_lt b 128) bs ≡ true → IsUtf8 bs
ascii_utf8 bs h = IsUtf8-from_ascii bs (ascii bs h)

name_ascii : (n : List ℕ) → list_all is_name_byte n ≡ true → list_all (λ b. nat_lt b 128) n ≡ true
name_ascii [] h = refl
name_ascii (b ∷ n) h =
    let ab = and_parts (is_name_byte b) (list_all is_name_byte n) h in
    let low : nat_lt b 128 ≡ true = low_name b ab.0 in
    rw low (name_ascii n ab.1)
  where
    low_name : (b : ℕ) → is_name_byte b ≡ true → nat_lt b 128 ≡ true
    low_name b h = grind (arith, common_steps)

spelling_utf8 : (x : Lexeme) → Sound x → IsUtf8 (spelling x)
spelling_utf8 (t.Name n) sound = ascii_utf8 n (name_ascii n (name_parts n sound.0).all)
spelling_utf8 (t.Number n) sound = IsUtf8-from_ascii (decimal n) (IsAscii-decimal n (omega (arith, sound)))
spelling_utf8 (t.Quoted w) sound = IsUtf8-append (39 ∷ flat_map doubled w) (39 ∷ [])
    (IsUtf8-append (39 ∷ []) (flat_map doubled w) (ascii_utf8 (39 ∷ []) refl) (doubled_utf8 w sound)) (ascii_utf8 (39 ∷ []) refl)
spelling_utf8 word sound = ascii_utf8 (spelling word) refl

gap_utf8 : (before : Edge) (x : Lexeme) → IsUtf8 (gap before x)
gap_utf8 before x = elim (gap_cases before x) [ inl is ↦ subst IsUtf8 (sym is) IsUtf8-nil | inr is ↦ subst IsUtf8 (sym is) (ascii_utf8 (32 ∷ []) refl) ]

behind_utf8 : (s : Lexemes) (before : Edge) → AllSound s → IsUtf8 (text_behind before s)
behind_utf8 [] before sound = IsUtf8-nil
behind_utf8 (x ∷ s) before sound =
    IsUtf8-append (gap before x ++ spelling x) (text_behind (edge_after before x) s)
    (IsUtf8-append (gap before x) (spelling x) (gap_utf8 before x) (spelling_utf8 x sound.0)) (behind_utf8 s (edge_after before x) sound.1)

pub spaced_utf8 : (s : Lexemes) → AllSound s → IsUtf8 (spaced s)
spaced_utf8 s sound = behind_utf8 s edge.Tight sound

-- ---- the last byte

last_of : List ℕ → ℕ
last_of text = slice_index text (length text - 1)

last_append : (xs ys : List ℕ) → 0 < length ys → last_of (xs ++ ys) ≡ last_of ys
unfolding last_of
last_append xs ys some =
    let at_last : length (xs ++ ys) - 1 ≡ length xs + (length ys - 1) = (let e = length-append xs ys in omega arith) in
    ap (slice_index (xs ++ ys)) at_last ∙ get_or-append-add xs ys (length ys - 1) 0

-- what passes at each byte passes at the last
last_passes : (p : ℕ → Bool) (w : List ℕ) (test : Bool) → list_all p w ≡ true → 0 < length w → p (last_of w) ≡ test → p (last_of w) ≡ true
unfolding last_of
last_passes p w true all some is = is
last_passes p w false all some is = let none = list_all_at p w (length w - 1) 0 (omega arith) is in absurd (cc)

last_name : (b : ℕ) → is_name_byte b ≡ true → (b == 13) ≡ false
last_name b h = grind (arith, common_steps)

last_digit : (b : ℕ) → is_ascii_digit b ≡ true → (b == 13) ≡ false
last_digit b h = grind (arith, common_steps)

last_spelling : (x : Lexeme) → Sound x → (last_of (spelling x) == 13) ≡ false
unfolding last_of
last_spelling (t.Name n) sound =
    let p = name_parts n sound.0 in
    let some : 0 < length n = name_some n p.some in
    last_name (last_of n) (last_passes is_name_byte n (is_name_byte (last_of n)) p.all some refl)
  where
    name_some : (n : List ℕ) → (length n == 0) ≡ false → 0 < length n
    name_some n h = grind (arith, nat_tests)
last_spelling (t.Number n) sound =
    let small : n < 2 ^ 64 = omega (arith, sound) in
    last_digit (last_of (decimal n)) (last_passes is_ascii_digit (decimal n) (is_ascii_digit (last_of (decimal n))) (decimal_digits n small)
    (decimal_nonempty n small) refl)
last_spelling (t.Quoted w) sound =
    let e : last_of (quoted w) ≡ 39 = last_append (39 ∷ flat_map doubled w) (39 ∷ []) (omega arith) in
    rw e refl
last_spelling word sound = refl

some_behind : (x : Lexeme) (s : Lexemes) (before : Edge) → Sound x → 0 < length (text_behind before (x ∷ s))
some_behind x s before sound =
    let rest = text_behind (edge_after before x) s in
    let a = length-append (gap before x ++ spelling x) rest in
    let b = length-append (gap before x) (spelling x) in
    let c = (stands x sound [] (ends_at_end x)).some in
    omega arith

last_behind : (s : Lexemes) (before : Edge) → AllSound s → (last_of (text_behind before s) == 13) ≡ false
unfolding last_of
last_behind [] before sound = refl
last_behind (x ∷ []) before sound =
    let some = (stands x sound.0 [] (ends_at_end x)).some in
    let e : last_of ((gap before x ++ spelling x) ++ []) ≡ last_of (spelling x) = ap last_of (append-nil (gap before x ++ spelling x))
    ∙ last_append (gap before x) (spelling x) some in
    rw e (last_spelling x sound.0)
last_behind (x ∷ y ∷ s) before sound =
    let e = last_append (gap before x ++ spelling x) (text_behind (edge_after before x) (y ∷ s)) (some_behind y s (edge_after before x) sound.1.0) in
    rw e (last_behind (y ∷ s) (edge_after before x) sound.1)

-- it ends with no carriage return
pub spaced_whole : (s : Lexemes) → AllSound s → without_return (spaced s) ≡ spaced s
unfolding last_of
spaced_whole s sound = rw (last_behind s edge.Tight sound) refl
