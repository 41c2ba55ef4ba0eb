-- decides: the grammar
-- The tokens of a line, each with the places of its bytes.
use Rattle.std.specs.Prelude.{◌≡◌, ◌≤◌, ◌<◌, ℕ, zero, suc, ◌+◌, ◌-◌, Bool, true, ◌||◌, ◌==◌, if◌then◌else◌, List, [], ◌∷◌, ◌++◌, length, take, drop, slice_index, slice_range, Option, Some, None, Result, Ok, Err}
use Rattle.std.specs.List.{list_all}
use Rattle.ifdb_lex.specs.declared.token.Token.{Token}
use Rattle.ifdb_lex.specs.declared.fault.LexFault.{LexFault}
use Rattle.ifdb_lex.specs.declared.fault.LexFault.TheVariants.{At, Limit, OutOfMemory}
use Rattle.ifdb_lex.specs.Front.{Piece, front}

-- the line without one carriage return (13) at its end
abbrev pub without_return : List ℕ → List ℕ
without_return line = let last = length line - 1 in if slice_index line last == 13 then take last line else line

-- a space or a tab
abbrev pub is_blank : ℕ → Bool
is_blank b = (b == 32) || (b == 9)

abbrev pub token_at : ℕ → Piece → Token
token_at at piece = record { kind = piece.0; start = at; end = at + piece.1 }

-- a token before others, if these are tokens
abbrev pub before : Token → Result (List Token) ℕ → Result (List Token) ℕ
before token (Ok tokens) = Ok (token ∷ tokens)
before token (Err at) = Err at

-- the token at place `at` and those behind it, which begin so many bytes further on; or the place, if no token is there
abbrev pub first_and : ℕ → Option Piece → (ℕ → Result (List Token) ℕ) → Result (List Token) ℕ
first_and at None behind = Err at
first_and at (Some piece) behind = before (token_at at piece) (behind piece.1)

-- the tokens of the bytes from place `at` on, of which the first `taken` belong to the token before; or the first place
-- that is no blank and where no token begins
abbrev pub tokens_from : ℕ → ℕ → List ℕ → Result (List Token) ℕ
tokens_from at taken [] = Ok []
tokens_from at (suc taken) (b ∷ text) = tokens_from (at + 1) taken text
tokens_from at zero (b ∷ text) =
    if is_blank b then tokens_from (at + 1) 0 text else first_and at (front (b ∷ text)) (λ len. tokens_from (at + 1) (len - 1) text)

abbrev pub tokens_of : List ℕ → Result (List Token) ℕ
tokens_of line = tokens_from 0 0 line

-- these tokens, then those of an answer
abbrev pub ahead : List Token → Result (List Token) ℕ → Result (List Token) ℕ
ahead tokens (Ok more) = Ok (tokens ++ more)
ahead tokens (Err at) = Err at

-- what `tokens_of` answers in code: these, unless memory was refused
abbrev pub Gives : Result (List Token) LexFault → Result (List Token) ℕ → Type 0
Gives (Ok tokens) answer = answer ≡ Ok tokens
Gives (Err (At at)) answer = answer ≡ Err at
Gives (Err Limit) answer = ⊥
Gives (Err OutOfMemory) answer = Unit {0}

-- from place `at` on there are blanks, then each token, which is the longest at its start and ends behind it, with
-- blanks between, and blanks up to the line's end
abbrev pub IsLaidOut : List ℕ → ℕ → List Token → Type 0
IsLaidOut line at [] = list_all is_blank (drop at line) ≡ true
IsLaidOut line at (token ∷ tokens) =
    (at ≤ token.start) × (token.start < token.end) × (token.end ≤ length line)
    × (list_all is_blank (slice_range line at token.start) ≡ true)
    × (front (drop token.start line) ≡ Some (token.kind, token.end - token.start))
    × IsLaidOut line token.end tokens
