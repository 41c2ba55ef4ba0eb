-- decides: the command line
-- The first word of the command line, and the words behind it.
use Rattle.std.specs.Prelude.{ℕ, Bool, false, List, [], ◌∷◌, map, string_bytes, String}
use Rattle.std.specs.Str.{bytes_eq}
use Rattle.std.specs.declared.alloc.Global.{Global}

-- the first word is this one
abbrev pub is_first : List ℕ → List (String Global) → Bool
is_first name [] = false
is_first name (word ∷ words) = bytes_eq (string_bytes word) name

-- the words behind the first
abbrev pub behind_first : List (String Global) → List (List ℕ)
behind_first [] = []
behind_first (word ∷ words) = map string_bytes words
