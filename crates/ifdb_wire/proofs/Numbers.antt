-- The number of a session is never 0.
use Rattle.std.proofs.Common.{◌≡◌, ℕ, ◌+◌, ◌*◌, ◌<◌, ◌≤◌, ◌≢◌, List, [], ◌∷◌, length, arith}
use Rattle.std.specs.Prelude.{Some, slice_index}
use Rattle.std.specs.Char.{digit_value}
use Rattle.std.specs.Str.Parse.{digits_value_after}
use Rattle.std.proofs.lemmas.Bool.Decides.{nat_tests}
use Rattle.std.proofs.lemmas.Str.{digit_value_digit}
use Rattle.ifdb_wire.specs.Script.{digits_number}

-- more digits make no number smaller
value_grows : (n : ℕ) (digits : List ℕ) → n ≤ digits_value_after 10 n digits
value_grows n [] = omega arith
value_grows n (c ∷ digits) = let more = value_grows (n * 10 + digit_value c) digits in omega arith

-- digits of which the first isn't `0`
pub digits_number_some : (digits : List ℕ) (n : ℕ) → 0 < length digits → slice_index digits 0 ≢ 48 → digits_number digits ≡ Some n → 0 < n
digits_number_some [] n some first e = absurd (omega (arith, some))
digits_number_some (c ∷ digits) n some first e = grind (arith, nat_tests, value_grows (digit_value c) digits, digit_value_digit c)
