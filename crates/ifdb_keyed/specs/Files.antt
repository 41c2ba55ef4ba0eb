-- decides: the service
-- The key for admin that a file holds.
use Rattle.std.specs.Prelude.{◌≡◌, ℕ, ◌==◌, ◌&&◌, Bool, List, [], ◌∷◌, length, nat_le, Option, Some, None, option_map, if◌then◌else◌}
use Rattle.std.specs.Str.Lossy.{utf8_valid_len}
use Rattle.ifdb_lex.specs.Line.{without_return}
use Rattle.ifdb_keyed.specs.declared.admin_key.AdminKey.{AdminKey}
use Rattle.ifdb_keyed.specs.Keys.{key_bytes}

-- the bytes before the first newline, or all
abbrev pub first_line : List ℕ → List ℕ
first_line [] = []
first_line (b ∷ bytes) = if b == 10 then [] else b ∷ first_line bytes

-- a text in UTF-8 of 1 to 64 bytes
abbrev pub is_key : List ℕ → Bool
is_key text = (nat_le 1 (length text) && nat_le (length text) 64) && nat_le (length text) (utf8_valid_len text)

-- the first line, once one carriage return at its end is dropped, if it is such a text
abbrev pub key_in : List ℕ → Option (List ℕ)
key_in bytes = let text = without_return (first_line bytes) in if is_key text then Some text else None

-- this is the key that a file of these bytes holds
abbrev pub IsKeyIn : List ℕ → Option AdminKey → Type 0
IsKeyIn bytes key = option_map key_bytes key ≡ key_in bytes
