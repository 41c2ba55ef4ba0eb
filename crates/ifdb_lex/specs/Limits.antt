-- decides: the grammar
-- The limits that the tokens of a line keep.
use Rattle.std.specs.Prelude.{ℕ, ◌≤◌, ◌+◌, ◌-◌, ◌^◌, Bool, true, false, ◌&&◌, ◌||◌, ◌==◌, if◌then◌else◌, nat_lt, List, [], ◌∷◌, slice_range, count_by, codes, length, All}
use Rattle.std.specs.List.{list_any}
use Rattle.std.specs.Str.{str_eq_ignore_ascii_case}
use Rattle.ifdb_lex.specs.declared.token.TokenKind.{TokenKind}
use Rattle.ifdb_lex.specs.declared.token.TokenKind.TheVariants.{Word, Number, Symbol}
use Rattle.ifdb_lex.specs.declared.token.Token.{Token}

abbrev pub is_word : TokenKind → Bool
is_word Word = true
is_word _ = false

-- a name longer than 63 bytes: no reserved word is so long, so each such word is a name
abbrev pub is_long_name : Token → Bool
is_long_name token = is_word token.kind && nat_lt 63 (token.end - token.start)

-- a number above 2^63
abbrev pub is_large : TokenKind → Bool
is_large (Number value) = nat_lt (2 ^ 63) value
is_large _ = false

abbrev pub is_large_number : Token → Bool
is_large_number token = is_large token.kind

-- how many parentheses are open behind a token, where so many are before it: `)` with none open closes nothing
abbrev pub open_behind : ℕ → TokenKind → ℕ
open_behind depth (Symbol b) = if b == 40 then depth + 1 else (if b == 41 then depth - 1 else depth)
open_behind depth _ = depth

-- more than 32 parentheses are open at once, where so many are at first
abbrev pub nests_deep : ℕ → List Token → Bool
nests_deep depth [] = false
nests_deep depth (token ∷ tokens) = let now = open_behind depth token.kind in if nat_lt 32 now then true else nests_deep now tokens

-- the word NOT, in any case
abbrev pub is_not : List ℕ → Token → Bool
is_not line token = is_word token.kind && str_eq_ignore_ascii_case (slice_range line token.start token.end) (codes "not")

-- a token's bytes are bytes of the line
abbrev pub IsWithin : List ℕ → Token → Type 0
IsWithin line token = (token.start ≤ token.end) × (token.end ≤ length line)

abbrev pub AreWithin : List ℕ → List Token → Type 0
AreWithin line tokens = All (IsWithin line) tokens

-- a limit is passed
abbrev pub exceeds : List ℕ → List Token → Bool
exceeds line tokens =
    list_any is_long_name tokens
    || list_any is_large_number tokens
    || nests_deep 0 tokens
    || nat_lt 64 (count_by (is_not line) tokens)
