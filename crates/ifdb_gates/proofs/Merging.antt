-- The sessions that the turns of joined passes opened.
use Rattle.std.proofs.Common.{◌≡◌, ℕ, ◌+◌, ◌-◌, ◌<◌, List, [], ◌∷◌, ◌++◌, length, zero, suc, refl, subst, arith, cond}
use Rattle.std.specs.Prelude.{map, nat_eq, IsPermutation}
use Rattle.std.proofs.lemmas.List.Sorted.{sum_by-IsPermutation}
use Rattle.std.proofs.lemmas.List.Sums.{sum_by-append}
use mathlib.Core.Option.{some}
use native.Mathlib.Decide.{dec_lt}
use lib.ListN.{get_elem?}
use Rattle.ifdb_turn.specs.Places.{merge, RisesFrom}
use Rattle.ifdb_turn.proofs.PlaceLemmas.{times_merge}
use Rattle.ifdb_history.specs.declared.entry.Entry.{Entry}
use Rattle.ifdb_history.specs.History.{roots_from}
use Rattle.ifdb_desk.specs.Opened.{opened_from, opened_in}
use Rattle.ifdb_desk.proofs.Opening.{opened_count, unopened, zero_unopened}
use Rattle.ifdb_gates.specs.Served.{Run, numbers_of, times_in}

nothing_from : (n : ℕ) (roots : List ℕ) → opened_from n roots [] ≡ []
nothing_from n [] = refl
nothing_from n (x ∷ roots) = nothing_from (n + 1) roots

-- no turns opened none
pub opened_nothing : (h : List Entry) → opened_in h [] ≡ []
opened_nothing h = nothing_from 1 (roots_from 0 h)

at_below : (xs : List ℕ) (i : ℕ) → i < length xs → (x : ℕ) × (get_elem? xs i ≡ some x)
at_below [] i lt = absurd (omega (arith, lt))
at_below (x ∷ xs) zero lt = (x, refl)
at_below (x ∷ xs) (suc i) lt = at_below xs i (omega (arith, lt))

-- those of joined passes opened what both opened
pub times_merged : (h : List Entry) (xs ks : List ℕ) (n : ℕ) → RisesFrom 0 xs → RisesFrom 0 ks → RisesFrom 0 (merge xs ks)
    → times_in n (opened_in h (merge xs ks)) ≡ times_in n (opened_in h xs) + times_in n (opened_in h ks)
times_merged h xs ks n rx rk rm = by (dec_lt 0 n) (dec_lt (length (roots_from 0 h)) n) where
  by : Dec (0 < n) → Dec (length (roots_from 0 h) < n) → times_in n (opened_in h (merge xs ks)) ≡ times_in n (opened_in h xs) + times_in n (opened_in h ks)
  by (yes positive) (no few) =
      let root = at_below (roots_from 0 h) (n - 1) (omega (arith, positive, few)) in
      let a = opened_count h xs n root.0 rx positive root.1 in
      let b = opened_count h ks n root.0 rk positive root.1 in
      let c = opened_count h (merge xs ks) n root.0 rm positive root.1 in
      let sum = times_merge root.0 xs ks in
      omega (arith, a, b, c, sum)
  by (yes positive) (yes many) =
      let a = unopened h xs n many in
      let b = unopened h ks n many in
      let c = unopened h (merge xs ks) n many in
      omega (arith, a, b, c)
  by (no none) few =
      let is : 0 ≡ n = omega (arith, none) in
      let a = zero_unopened h xs in
      let b = zero_unopened h ks in
      let c = zero_unopened h (merge xs ks) in
      subst (λ m. times_in m (opened_in h (merge xs ks)) ≡ times_in m (opened_in h xs) + times_in m (opened_in h ks)) is (omega (arith, a, b, c))

-- numbers in another order are the same numbers
pub times_in_order : (n : ℕ) (xs ys : List ℕ) → IsPermutation xs ys → times_in n ys ≡ times_in n xs
times_in_order n xs ys is = sum_by-IsPermutation (λ x. cond (nat_eq n x) 1 0) xs ys is

times_in-append : (n : ℕ) (xs ys : List ℕ) → times_in n (xs ++ ys) ≡ times_in n xs + times_in n ys
times_in-append n xs ys = sum_by-append (λ x. cond (nat_eq n x) 1 0) xs ys

-- one run more
pub numbers_more : {G P : Type 0} (n : ℕ) (rs : List (Run G P)) (r : Run G P) → times_in n (numbers_of (rs ++ r ∷ [])) ≡ times_in n (numbers_of rs) + times_in n (map (λ v. v.number) r.visits)
numbers_more n [] r = let e = times_in-append n (map (λ v. v.number) r.visits) [] in omega (arith, e)
numbers_more n (x ∷ rs) r =
    let a = times_in-append n (map (λ v. v.number) x.visits) (numbers_of (rs ++ r ∷ [])) in
    let b = times_in-append n (map (λ v. v.number) x.visits) (numbers_of rs) in
    let c = numbers_more n rs r in
    omega (arith, a, b, c)
