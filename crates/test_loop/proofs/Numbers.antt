-- One number more.
use Rattle.std.proofs.Common.{◌≡◌, ℕ, zero, suc, ◌+◌, ◌≤◌, ◌<◌, [], ◌∷◌, ◌++◌, cond, Bool, true, false, refl, ap, ◌∙◌, add-one, arith}
use Rattle.std.specs.Prelude.{count_by, nat_eq}
use Rattle.std.proofs.lemmas.Bool.{eqb-true}
use Rattle.std.proofs.lemmas.List.Sums.{sum_by_push}
use Rattle.test_loop.specs.Numbers.{numbers_below}

pub one_number_more : (n : ℕ) → numbers_below (n + 1) ≡ numbers_below n ++ n ∷ []
one_number_more n = let e : n + 1 ≡ suc n = omega arith in ap numbers_below e

none_by : (m n count : ℕ) (b : Bool) → nat_eq m n ≡ b → n < m → count ≡ 0 → count + cond b 1 0 ≡ 0
none_by m n count true is lt none = let e = eqb-true m n is in absurd (omega (arith, e, lt))
none_by m n count false is lt none = omega (arith, none)

-- a number that isn't below isn't among them
pub no_number_below : (m n : ℕ) → n ≤ m → count_by (nat_eq m) (numbers_below n) ≡ 0
no_number_below m zero le = refl
no_number_below m (suc n) le =
    sum_by_push (λ x. cond (nat_eq m x) 1 0) (numbers_below n) n ∙ none_by m n (count_by (nat_eq m) (numbers_below n)) (nat_eq m n) refl (omega (arith, le)) (no_number_below m n (omega (arith, le)))
