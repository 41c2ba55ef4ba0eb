-- Digits, one more at a time.
use Rattle.std.proofs.Common.{◌≡◌, ℕ, ◌+◌, ◌*◌, ◌^◌, ◌<◌, ◌≤◌, true, List, length, get_or, take, arith, lit<}
use Rattle.std.specs.List.{list_all}
use Rattle.std.specs.Char.{is_ascii_digit}
use Rattle.std.proofs.Math.Nat.{pow-le-pow_right}
use Rattle.std.proofs.lemmas.Bool.Decides.{nat_tests}
use Rattle.std.proofs.lemmas.List.Folds.{list_all-append}
use Rattle.std.proofs.lemmas.List.{take_more}
use Rattle.std.proofs.lemmas.Grind.{common_steps}

-- a number of at most k digits is below the k-th power of ten
pub small : (v i k : ℕ) → v < 10 ^ i → i ≤ k → v < 10 ^ k
small v i k lt le = let more : 10 ^ i ≤ 10 ^ k = pow-le-pow_right {n = 10} (lit< tt) {i = i} {j = k} le in omega (arith, lt, more)

-- a digit more, and a power of ten more
pub power : (v d i : ℕ) → v < 10 ^ i → d < 10 → 10 * v + d < 10 ^ (i + 1)
power v d i lt le = grind (arith, common_steps)

-- a digit more
pub all_more : (xs : List ℕ) (i : ℕ) → i < length xs → list_all is_ascii_digit (take i xs) ≡ true → is_ascii_digit (get_or xs i 0) ≡ true →
    list_all is_ascii_digit (take (i + 1) xs) ≡ true
all_more xs i lt h g = rw (take_more xs i 0 lt, list_all-append) (grind (arith, nat_tests))
