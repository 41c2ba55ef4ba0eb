-- Sums over the views of a table.
use Rattle.std.proofs.Common.{◌≡◌, ◌≢◌, ℕ, zero, suc, ◌+◌, ◌≤◌, List, [], ◌∷◌, ◌++◌, set, sym, refl, ap, arith}
use mathlib.Core.Option.{some, some-injective, some-ne-none}
use lib.ListN.{get_elem?}
use Rattle.ifdb_turn.specs.Views.{total}

module _ {V : Type 0} (f : V → ℕ) where
  -- the sum after one view is another
  pub total-set : (l : List V) (i : ℕ) (v w : V) → get_elem? l i ≡ some v → total f (set l i w) + f v ≡ total f l + f w
  total-set [] i v w e = absurd (some-ne-none v (sym e))
  total-set (x ∷ xs) zero v w e = let is : f x ≡ f v = ap f (some-injective x v e) in omega arith
  total-set (x ∷ xs) (suc i) v w e = let r = total-set xs i v w e in omega arith

  pub total-same : (l : List V) (i : ℕ) (v w : V) → get_elem? l i ≡ some v → f w ≡ f v → total f (set l i w) ≡ total f l
  total-same l i v w e is = let r = total-set l i v w e in omega arith

  pub total-snoc : (l : List V) (w : V) → total f (l ++ w ∷ []) ≡ total f l + f w
  total-snoc [] w = omega arith
  total-snoc (x ∷ xs) w = let r = total-snoc xs w in omega arith

  pub total_one : (l : List V) (i : ℕ) (v : V) → get_elem? l i ≡ some v → f v ≤ total f l
  total_one [] i v e = absurd (some-ne-none v (sym e))
  total_one (x ∷ xs) zero v e = let is : f x ≡ f v = ap f (some-injective x v e) in omega arith
  total_one (x ∷ xs) (suc i) v e = let r = total_one xs i v e in omega arith

  pub total_two : (l : List V) (i j : ℕ) (v w : V) → j ≢ i → get_elem? l i ≡ some v → get_elem? l j ≡ some w
      → f v + f w ≤ total f l
  total_two [] i j v w ne a b = absurd (some-ne-none v (sym a))
  total_two (x ∷ xs) zero zero v w ne a b = absurd (ne refl)
  total_two (x ∷ xs) zero (suc j) v w ne a b = let is : f x ≡ f v = ap f (some-injective x v a) in let r = total_one xs j w b in
      omega arith
  total_two (x ∷ xs) (suc i) zero v w ne a b = let is : f x ≡ f w = ap f (some-injective x w b) in let r = total_one xs i v a in
      omega arith
  total_two (x ∷ xs) (suc i) (suc j) v w ne a b = let r = total_two xs i j v w (λ e. ne (ap suc e)) a b in omega arith

  pub total_zero : (l : List V) → ((j : ℕ) (v : V) → get_elem? l j ≡ some v → f v ≡ 0) → total f l ≡ 0
  total_zero [] z = refl
  total_zero (x ∷ xs) z = let a = z 0 x refl in let b = total_zero xs (λ j v e. z (suc j) v e) in omega arith
