-- The token at the front has a length, and lies within the text.
use Rattle.std.proofs.Common.{◌≡◌, ℕ, ◌+◌, ◌-◌, ◌<◌, ◌≤◌, Bool, true, false, ◌==◌, if◌then◌else◌, List, [], ◌∷◌, length, drop, slice_index, Option, Some, None, refl, ap, subst, arith}
use Rattle.std.specs.Char.{is_ascii_digit}
use Rattle.std.specs.List.{prefix_len}
use Rattle.std.proofs.lemmas.Grind.{common_steps}
use Rattle.std.proofs.lemmas.List.{length-drop}
use Rattle.std.proofs.lemmas.List.Sums.{prefix_len-le-length}
use Rattle.ifdb_lex.specs.Front.{Piece, begins_word, is_word_byte, word, number, closing, closed, quoted, symbol, front}

-- by both cases of a test
either : {A : Type 0} (x y : Option A) (a : A) (P : Type 0) (test : Bool) →
    (test ≡ true → x ≡ Some a → P) → (test ≡ false → y ≡ Some a → P) → (if test then x else y) ≡ Some a → P
either x y a P true = λ yes no e. yes refl e
either x y a P false = λ yes no e. no refl e

abbrev Fits : ℕ → List ℕ → Type 0
Fits len text = (0 < len) × (len ≤ length text)

run_fits : (p : ℕ → Bool) (text : List ℕ) → p 0 ≡ false → p (slice_index text 0) ≡ true → Fits (prefix_len p text) text
run_fits p [] none some = absurd (cc)
run_fits p (b ∷ text) none some = (rw some (omega arith), prefix_len-le-length p (b ∷ text))

begins_is_byte : (b : ℕ) → begins_word b ≡ true → is_word_byte b ≡ true
begins_is_byte b h = grind (arith, common_steps)

closing_fits : (n : ℕ) (text : List ℕ) (place : ℕ) → closing n text ≡ Some place → (n < place) × (place ≤ n + length text)
closing_fits n [] place e = absurd (cc)
closing_fits n (b ∷ []) place e =
    either (Some (n + 1)) None place ((n < place) × (place ≤ n + length (b ∷ []))) (b == 39)
    (λ quote is. let p : n + 1 ≡ place = cc in (omega arith, omega arith))
    (λ other is. absurd (cc)) e
closing_fits n (b ∷ next ∷ text) place e =
    either (if next == 39 then closing (n + 2) text else Some (n + 1)) (closing (n + 1) (next ∷ text)) place
    ((n < place) × (place ≤ n + length (b ∷ next ∷ text))) (b == 39)
    (λ quote is. either (closing (n + 2) text) (Some (n + 1)) place ((n < place) × (place ≤ n + length (b ∷ next ∷ text))) (next == 39)
    (λ twice more. let ih : (n + 2 < place) × (place ≤ n + 2 + length text) = closing_fits (n + 2) text place more in (omega arith, omega arith))
    (λ last ends. let p : n + 1 ≡ place = cc in (omega arith, omega arith)) is)
    (λ other more. let ih : (n + 1 < place) × (place ≤ n + 1 + length (next ∷ text)) = closing_fits (n + 1) (next ∷ text) place more in (omega arith, omega arith)) e

-- the length of a piece, if there is one
length_of : Option Piece → ℕ
length_of None = 0
length_of (Some piece) = piece.1

closed_fits : (text : List ℕ) (o : Option ℕ) (piece : Piece) → closing 1 (drop 1 text) ≡ o → 0 < length text → closed o ≡ Some piece → Fits piece.1 text
unfolding length_of
closed_fits text None piece is some e = absurd (cc)
closed_fits text (Some len) piece is some e =
    let p : len ≡ piece.1 = ap length_of e in
    let ih : (1 < len) × (len ≤ 1 + length (drop 1 text)) = closing_fits 1 (drop 1 text) len is in
    let d : length (drop 1 text) ≡ length text - 1 = length-drop 1 text in
    (omega arith, omega arith)

-- a symbol of two bytes has a second byte
symbol_fits : (first second : ℕ) (piece : Piece) → symbol first second ≡ Some piece → (0 < piece.1) × (piece.1 ≤ 2) × (second ≡ 0 → piece.1 ≡ 1)
symbol_fits first second piece e = grind (arith, common_steps)

second_byte : (text : List ℕ) → length text ≤ 1 → slice_index text 1 ≡ 0
second_byte [] h = refl
second_byte (b ∷ []) h = refl
second_byte (b ∷ next ∷ text) h = absurd (omega arith)

pub front_fits : (text : List ℕ) (piece : Piece) → 0 < length text → front text ≡ Some piece → Fits piece.1 text
unfolding length_of
front_fits text piece some e =
    let first = slice_index text 0 in
    let P : ℕ → Type 0 = λ n. Fits n text in
    let symbols : Option Piece = symbol first (slice_index text 1) in
    let texts : Option Piece = if first == 39 then quoted text else symbols in
    let numbers : Option Piece = if is_ascii_digit first then Some (number text) else texts in
    either (Some (word text)) numbers piece (P piece.1) (begins_word first)
    (λ begins is. subst P (ap length_of is) (run_fits is_word_byte text refl (begins_is_byte first begins)))
    (λ other more. either (Some (number text)) texts piece (P piece.1) (is_ascii_digit first)
    (λ digit is. subst P (ap length_of is) (run_fits is_ascii_digit text refl digit))
    (λ no_digit more. either (quoted text) symbols piece (P piece.1) (first == 39)
    (λ quote is. closed_fits text (closing 1 (drop 1 text)) piece refl some is)
    (λ no_quote is.
    let ih : (0 < piece.1) × (piece.1 ≤ 2) × (slice_index text 1 ≡ 0 → piece.1 ≡ 1) = symbol_fits first (slice_index text 1) piece is in
    let short : length text ≤ 1 → slice_index text 1 ≡ 0 = second_byte text in
    (ih.0, grind arith)) more) more) e
