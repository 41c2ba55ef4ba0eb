-- decides: the command line
-- Levels in words: lists of tags.
use Rattle.std.specs.Prelude.{ℕ, ◌==◌, ◌&&◌, List, [], length, map, codes, nat_le, Option, Some, None, if◌then◌else◌}
use Rattle.std.specs.List.{list_all, slice_split}
use Rattle.std.specs.Str.{bytes_eq}
use Rattle.std.specs.Str.Parse.{digits_value}
use Rattle.ifdb_words.specs.Numbers.{is_number}

-- the pieces of a word between commas, which are 44
abbrev pub pieces_of : List ℕ → List (List ℕ)
pieces_of word = slice_split (λ b. b == 44) word

-- the tags that pieces write: at most 64, each a number of 1 to 18 digits
abbrev pub level_in : List (List ℕ) → Option (List ℕ)
level_in pieces = if nat_le (length pieces) 64 && list_all (is_number 18) pieces then Some (map (digits_value 10) pieces) else None

-- the tags that a word writes
abbrev pub level_of : List ℕ → Option (List ℕ)
level_of word = if bytes_eq word (codes "none") then Some [] else level_in (pieces_of word)
