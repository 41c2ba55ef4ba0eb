-- decides: the grammar
-- The longest token at the front of a text, by its first byte. A text ends where its bytes end, and reads as 0 there.
use Rattle.std.specs.Prelude.{ℕ, ◌+◌, ◌-◌, ◌*◌, ◌^◌, min, Bool, ◌&&◌, ◌||◌, ◌==◌, if◌then◌else◌, List, [], ◌∷◌, take, drop, slice_index, Option, Some, None, codes}
use Rattle.std.specs.Char.{is_ascii_alphabetic, is_ascii_alphanumeric, is_ascii_digit}
use Rattle.std.specs.List.{list_any, prefix_len}
use Rattle.ifdb_lex.specs.declared.token.TokenKind.{TokenKind}
use Rattle.ifdb_lex.specs.declared.token.TokenKind.TheVariants as kind

-- a token's kind, and its length in bytes
abbrev pub Piece : Type 0
Piece = TokenKind × ℕ

-- ---- words: a letter or `_`, then letters, digits and `_`, as long as possible

abbrev pub begins_word : ℕ → Bool
begins_word b = is_ascii_alphabetic b || (b == 95)

abbrev pub is_word_byte : ℕ → Bool
is_word_byte b = is_ascii_alphanumeric b || (b == 95)

abbrev pub word : List ℕ → Piece
word text = (kind.Word, prefix_len is_word_byte text)

-- ---- numbers: digits, as long as possible; leading zeros count for nothing

-- the number that these digits write behind those of `value`
abbrev pub decimal : ℕ → List ℕ → ℕ
decimal value [] = value
decimal value (digit ∷ digits) = decimal (value * 10 + (digit - 48)) digits

-- numbers above 2^63, which no line may have, are all read as the least of them
abbrev pub capped : ℕ → ℕ
capped value = min value (2 ^ 63 + 1)

abbrev pub number : List ℕ → Piece
number text = let len = prefix_len is_ascii_digit text in (kind.Number (capped (decimal 0 (take len text))), len)

-- ---- texts: `'` (39), then any characters, where `''` stands for one quote, then `'`

-- the place behind the closing quote, where these bytes of the text begin at place `at`
abbrev pub closing : ℕ → List ℕ → Option ℕ
closing at [] = None
closing at (b ∷ []) = if b == 39 then Some (at + 1) else None
closing at (b ∷ next ∷ text) =
    if b == 39 then (if next == 39 then closing (at + 2) text else Some (at + 1)) else closing (at + 1) (next ∷ text)

abbrev pub closed : Option ℕ → Option Piece
closed None = None
closed (Some len) = Some (kind.Text, len)

abbrev pub quoted : List ℕ → Option Piece
quoted text = closed (closing 1 (drop 1 text))

-- ---- symbols: the pairs `<>` and `!=`, `<=`, `>=` first, then one of the bytes below

abbrev pub is_symbol : ℕ → Bool
is_symbol b = list_any (λ c. b == c) (codes "(),.=<>+-*;")

abbrev pub symbol : ℕ → ℕ → Option Piece
symbol first second =
    if first == 60 && second == 62 then Some (kind.NotEqual, 2)
    else (if first == 33 && second == 61 then Some (kind.NotEqual, 2)
    else (if first == 60 && second == 61 then Some (kind.AtMost, 2)
    else (if first == 62 && second == 61 then Some (kind.AtLeast, 2)
    else (if is_symbol first then Some (kind.Symbol first, 1) else None))))

-- ---- all tokens

-- the token at the front, or None: its first byte begins none, or begins a text that isn't closed
abbrev pub front : List ℕ → Option Piece
front text =
    let first = slice_index text 0 in
    if begins_word first then Some (word text)
    else (if is_ascii_digit first then Some (number text)
    else (if first == 39 then quoted text
    else symbol first (slice_index text 1)))
