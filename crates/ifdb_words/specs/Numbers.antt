-- decides: the command line
-- Numbers in words.
use Rattle.std.specs.Prelude.{ℕ, ◌&&◌, Bool, nat_lt, nat_le, List, length, Option, Some, None, option_and_then, option_map, if◌then◌else◌}
use Rattle.std.specs.List.{list_all}
use Rattle.std.specs.Str.Parse.{digits_value}
use Rattle.std.specs.Char.{is_ascii_digit}

-- it is 1 to so many digits
abbrev pub is_number : ℕ → List ℕ → Bool
is_number most word = nat_lt 0 (length word) && nat_le (length word) most && list_all is_ascii_digit word

-- a number of 1 to so many digits
abbrev pub decimal_of : ℕ → List ℕ → Option ℕ
decimal_of most word = if is_number most word then Some (digits_value 10 word) else None

-- a number of 1 to 13 digits
abbrev pub number_of : List ℕ → Option ℕ
number_of word = decimal_of 13 word

-- the number, if it is from 1 to this
abbrev pub up_to : ℕ → ℕ → Option ℕ
up_to most n = if nat_le 1 n && nat_le n most then Some n else None

-- the number that a word writes, from 1 to this
abbrev pub number_to : ℕ → List ℕ → Option ℕ
number_to most word = option_and_then (up_to most) (number_of word)

-- the number of an option that has to be used, from 1 to this
abbrev pub needed_to : ℕ → Option (List ℕ) → Option ℕ
needed_to most None = None
needed_to most (Some word) = number_to most word

-- the number of an option that may be left out, from 1 to this
abbrev pub number_or : ℕ → ℕ → Option (List ℕ) → Option ℕ
number_or default most None = Some default
number_or default most (Some word) = number_to most word

-- that number, or none, where it is left out
abbrev pub maybe_to : ℕ → Option (List ℕ) → Option (Option ℕ)
maybe_to most None = Some None
maybe_to most (Some word) = option_map Some (number_to most word)
