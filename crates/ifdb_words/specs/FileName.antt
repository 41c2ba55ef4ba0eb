-- decides: the command line
-- Names of files in words.
use Rattle.std.specs.Prelude.{ℕ, ◌&&◌, List, length, nat_le, Option, Some, None, option_and_then, if◌then◌else◌}

-- the name that a word is: of 1 to 255 bytes
abbrev pub file_name_of : List ℕ → Option (List ℕ)
file_name_of word = if nat_le 1 (length word) && nat_le (length word) 255 then Some word else None

-- the name that the value of an option is, where it is used
abbrev pub file_in : Option (List ℕ) → Option (List ℕ)
file_in value = option_and_then file_name_of value
