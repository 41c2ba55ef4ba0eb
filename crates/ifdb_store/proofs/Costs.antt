-- The cost of a search that halves what is left.
use Rattle.std.proofs.Common.{◌≡◌, ℕ, zero, suc, subst, ◌-◌, ◌+◌, ◌*◌, ◌^◌, ◌<◌, ◌≤◌, Bool, true, false, ◌∙◌, refl, ap, arith}
use Rattle.std.specs.Prelude.{nat_lt}
use Rattle.std.proofs.lemmas.Bool.Decides.{nat_tests}
use Rattle.std.proofs.lemmas.Nat.{pow-add}
use Rattle.std.proofs.Math.Nat.{mul-le-mul, pow-suc, pow-zero, mul-le-mul_left, mul-le-mul_right, mul_assoc}

next_pow : (old now : ℕ) → old ≤ now → 2 ^ ((now + 1) - old) ≡ 2 ^ (now - old) * 2
next_pow old now le = ap (λ k. 2 ^ k) (omega arith) ∙ pow-suc 2 (now - old)

pub halved : (old now s h n : ℕ) → old ≤ now → 2 ^ (now - old) * s ≤ n → 2 * h ≤ s → 2 ^ ((now + 1) - old) * h ≤ n
halved old now s h n le c k =
    let m = mul-le-mul_left (2 ^ (now - old)) k in
    rw (next_pow old now le) (rw (mul_assoc (2 ^ (now - old)) 2 h) (omega arith))

pub one_more : (old now s n : ℕ) → old ≤ now → 2 ^ (now - old) * s ≤ n → 0 < s → 2 ^ ((now + 1) - old) ≤ 2 * n + 1
one_more old now s n le c k =
    let m : 2 ^ (now - old) * 1 ≤ 2 ^ (now - old) * s = mul-le-mul_left (2 ^ (now - old)) (omega arith) in
    rw (next_pow old now le) (omega arith)

pub from_start : (now n : ℕ) → 2 ^ (now - now) * (n - 0) ≤ n
from_start now n = let e : now - now ≡ 0 = omega arith in rw e (omega arith)

pub started : (now n : ℕ) → 2 ^ (now - now) ≤ 2 * n + 1
started now n = let e : now - now ≡ 0 = omega arith in rw e (omega arith)

-- one after the other
pub pow_join : (a b c m k : ℕ) → a ≤ b → b ≤ c → 2 ^ (b - a) ≤ m → 2 ^ (c - b) ≤ k → 2 ^ (c - a) ≤ m * k
pow_join a b c m k ab bc h g =
    let e : c - a ≡ (b - a) + (c - b) = omega arith in
    rw e (rw (pow-add 2 (b - a) (c - b)) (mul-le-mul h g))

pub no_pow : (a k : ℕ) → 1 ≤ k → 2 ^ (a - a) ≤ k
no_pow a k h = let e : a - a ≡ 0 = omega arith in rw e h

-- ---- what a search over levels of parts costs

squares : (x y : ℕ) → 2 * (x * y) ≤ x * x + y * y
squares zero y = omega arith
squares (suc x) zero = omega arith
squares (suc x) (suc y) = let h = squares x y in omega (arith, h)

-- among b pages, and in one of m rows
pub twig_square : (b m j k : ℕ) → 1 ≤ b → j ≤ 2 * m + 1 → k ≤ (2 * (b - 1) + 1) * j → k ≤ (b + m) * (b + m)
twig_square zero m j k le h e = absurd (omega (arith, le))
twig_square (suc x) m j k le h e =
    let one : suc x - 1 ≡ x = omega arith in
    let f : k ≤ (2 * x + 1) * j = subst (λ n. k ≤ (2 * n + 1) * j) one e in
    let p : (2 * x + 1) * j ≤ (2 * x + 1) * (2 * m + 1) = mul-le-mul_left (2 * x + 1) h in
    let q = squares x m in
    omega (arith, f, p, q)

-- a product of two that are bounded
pub at_most_product : (x y m n k : ℕ) → x ≤ m → y ≤ n → k ≤ x * y → k ≤ m * n
at_most_product x y m n k f g e = let p = mul-le-mul f g in omega (arith, p, e)

self_square : (x : ℕ) → x ≤ x * x
self_square zero = omega arith
self_square (suc x) = omega arith

-- behind the first of a + 1 twigs of 16 rows at least, and in one whose rows and 1 are t
pub branch_square : (a t j k n : ℕ) → j ≤ t * t → j ≤ 8127 → 16 * a + t ≤ n → k ≤ (2 * a + 1) * j → 3 * k ≤ 10 * (n * n)
branch_square a t j k n h most le e = by (nat_lt t 91) refl where
  by : (b : Bool) → nat_lt t 91 ≡ b → 3 * k ≤ 10 * (n * n)
  by true c =
      let few : t ≤ 90 = grind (arith, nat_tests) in
      let h1 : t * t ≤ 90 * t = mul-le-mul_right t few in
      let h2 : a * (t * t) ≤ a * (90 * t) = mul-le-mul_left a h1 in
      let p : (2 * a + 1) * j ≤ (2 * a + 1) * (t * t) = mul-le-mul_left (2 * a + 1) h in
      let m : (16 * a + t) * (16 * a + t) ≤ n * n = mul-le-mul le le in
      let q = squares (133 * a) (7 * t) in
      omega (arith, h2, p, m, q, e)
  by false c =
      let many : 91 ≤ t = grind (arith, nat_tests) in
      let least : 16 * a + 91 ≤ n = omega (arith, many, le) in
      let p : (2 * a + 1) * j ≤ (2 * a + 1) * 8127 = mul-le-mul_left (2 * a + 1) most in
      let m : (16 * a + 91) * (16 * a + 91) ≤ n * n = mul-le-mul least least in
      let q = squares a 4 in
      omega (arith, p, m, q, e)

-- behind the first of a + 1 branches of 256 rows at least, and in one whose rows and 1 are t
pub limb_square : (a t j k n : ℕ) → 3 * j ≤ 10 * (t * t) → j ≤ 512001 → 256 * a + t ≤ n → k ≤ (2 * a + 1) * j → 5 * k ≤ 19 * (n * n)
limb_square a t j k n h most le e = by (nat_lt t 388) refl where
  by : (b : Bool) → nat_lt t 388 ≡ b → 5 * k ≤ 19 * (n * n)
  by true c =
      let few : t ≤ 387 = grind (arith, nat_tests) in
      let h1 : t * t ≤ 387 * t = mul-le-mul_right t few in
      let h2 : a * (t * t) ≤ a * (387 * t) = mul-le-mul_left a h1 in
      let h3 : a * t ≤ a * 387 = mul-le-mul_left a few in
      let p : (2 * a + 1) * (3 * j) ≤ (2 * a + 1) * (10 * (t * t)) = mul-le-mul_left (2 * a + 1) h in
      let m : (256 * a + t) * (256 * a + t) ≤ n * n = mul-le-mul le le in
      let q = self_square a in
      omega (arith, h2, h3, p, m, q, e)
  by false c =
      let many : 388 ≤ t = grind (arith, nat_tests) in
      let least : 256 * a + 388 ≤ n = omega (arith, many, le) in
      let p : (2 * a + 1) * j ≤ (2 * a + 1) * 512001 = mul-le-mul_left (2 * a + 1) most in
      let m : (256 * a + 388) * (256 * a + 388) ≤ n * n = mul-le-mul least least in
      let q = self_square a in
      let r = squares a 1 in
      omega (arith, p, m, q, r, e)

-- behind the first of a + 1 limbs of 4096 rows at least, and in one whose rows and 1 are t
pub tree_square : (a t j k n : ℕ) → 5 * j ≤ 19 * (t * t) → j ≤ 32256063 → 4096 * a + t ≤ n → k ≤ (2 * a + 1) * j → k ≤ 4 * (n * n)
tree_square a t j k n h most le e = by (nat_lt t 3000) refl where
  by : (b : Bool) → nat_lt t 3000 ≡ b → k ≤ 4 * (n * n)
  by true c =
      let few : t ≤ 2999 = grind (arith, nat_tests) in
      let h1 : t * t ≤ 2999 * t = mul-le-mul_right t few in
      let h2 : a * (t * t) ≤ a * (2999 * t) = mul-le-mul_left a h1 in
      let p : (2 * a + 1) * (5 * j) ≤ (2 * a + 1) * (19 * (t * t)) = mul-le-mul_left (2 * a + 1) h in
      let m : (4096 * a + t) * (4096 * a + t) ≤ n * n = mul-le-mul le le in
      omega (arith, h2, p, m, e)
  by false c =
      let many : 3000 ≤ t = grind (arith, nat_tests) in
      let least : 4096 * a + 3000 ≤ n = omega (arith, many, le) in
      let p : (2 * a + 1) * j ≤ (2 * a + 1) * 32256063 = mul-le-mul_left (2 * a + 1) most in
      let m : (4096 * a + 3000) * (4096 * a + 3000) ≤ n * n = mul-le-mul least least in
      omega (arith, p, m, e)

pub square_is : (x : ℕ) → x ^ 2 ≡ x * x
square_is x =
    let one : x ^ 1 ≡ x = pow-suc x 0 ∙ (ap (λ y. y * x) (pow-zero x) ∙ omega arith) in
    pow-suc x 1 ∙ ap (λ y. y * x) one
