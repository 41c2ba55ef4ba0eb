-- How far a test holds from the front of a list, what is behind that, and where a binary search for it ends.
use Rattle.std.proofs.Common.{◌≡◌, ℕ, zero, suc, ◌+◌, ◌-◌, ◌<◌, ◌≤◌, Bool, true, false, List, [], ◌∷◌, ◌∙◌, length, get_or, take, drop, refl, sym, ap, arith, Some, None}
use Rattle.std.specs.Prelude.{not, cond, find, filter, slice_get, take_while}
use Rattle.std.specs.List.{list_all, prefix_len}
use Rattle.std.specs.List.Sorted.{IsPartitionedBy}
use Rattle.std.proofs.lemmas.Bool.Decides.{nat_tests}
use Rattle.std.proofs.lemmas.Grind.{common_steps}
use Rattle.std.proofs.lemmas.Option.{get_or_from_slice_get, slice_get_within}
use Rattle.ifdb_value.proofs.Lists.{all_at}
use Rattle.ifdb_row.specs.Reach.{reach, is_parted, skip}

pub reach_within : {X : Type 0} (p : X → Bool) (xs : List X) → reach p xs ≤ length xs
reach_within p [] = omega arith
reach_within p (x ∷ xs) = grind (arith, nat_tests, reach_within p xs)

-- an item that passes lies in reach
pub reach_above : {X : Type 0} (p : X → Bool) (xs : List X) (k : ℕ) (d : X) → is_parted p xs ≡ true → k < length xs → p (get_or xs k d) ≡ true → k < reach p xs
reach_above p [] k d h lt e = absurd (omega arith)
reach_above p (x ∷ xs) zero d h lt e = grind (arith, nat_tests)
reach_above p (x ∷ xs) (suc k) d h lt e = grind (arith, nat_tests, reach_above p xs k d, all_at (λ y. not (p y)) xs k d)

-- and one that doesn't ends it
pub reach_below : {X : Type 0} (p : X → Bool) (xs : List X) (k : ℕ) (d : X) → k < length xs → p (get_or xs k d) ≡ false → reach p xs ≤ k
reach_below p [] k d lt e = absurd (omega arith)
reach_below p (x ∷ xs) zero d lt e = grind (arith, nat_tests)
reach_below p (x ∷ xs) (suc k) d lt e = grind (arith, nat_tests, reach_below p xs k d)

-- the same of an item that was read
pub read_above : {X : Type 0} (p : X → Bool) (xs : List X) (k : ℕ) (x : X) → is_parted p xs ≡ true → k < length xs → x ≡ get_or xs k x → p x ≡ true → k + 1 ≤ reach p xs
read_above p xs k x h lt e t = let r = reach_above p xs k x h lt (ap p (sym e) ∙ t) in omega arith

pub read_below : {X : Type 0} (p : X → Bool) (xs : List X) (k : ℕ) (x : X) → k < length xs → x ≡ get_or xs k x → p x ≡ false → reach p xs ≤ k
read_below p xs k x lt e t = reach_below p xs k x lt (ap p (sym e) ∙ t)

-- what lies in reach passes
pub reach_passes : {X : Type 0} (p : X → Bool) (xs : List X) (k : ℕ) (x : X) → k < reach p xs → x ≡ get_or xs k x → p x ≡ true
reach_passes p [] k x lt e = absurd (omega arith)
reach_passes {X = X} p (y ∷ xs) k x lt e = by (p y) refl k lt e (reach_passes p xs) where
  by : (b : Bool) → p y ≡ b → (k : ℕ) → k < reach p (y ∷ xs) → x ≡ get_or (y ∷ xs) k x → ((k : ℕ) (x : X) → k < reach p xs → x ≡ get_or xs k x → p x ≡ true) → p x ≡ true
  by true u zero lt e more = ap p e ∙ u
  by true u (suc k) lt e more = let z : reach p (y ∷ xs) ≡ suc (reach p xs) = ap (λ b. cond b (suc (reach p xs)) 0) u in more k x (omega arith) e
  by false u k lt e more = let z : reach p (y ∷ xs) ≡ 0 = ap (λ b. cond b (suc (reach p xs)) 0) u in absurd (omega arith)

-- behind reach begins what is left when the front is skipped
pub skip_is : {X : Type 0} (p : X → Bool) (xs : List X) → skip p xs ≡ drop (reach p xs) xs
skip_is p [] = refl
skip_is p (x ∷ xs) = by (p x) refl (skip_is p xs) where
  by : (b : Bool) → p x ≡ b → skip p xs ≡ drop (reach p xs) xs → skip p (x ∷ xs) ≡ drop (reach p (x ∷ xs)) (x ∷ xs)
  by true e more = ap (λ b. cond b (skip p xs) (x ∷ xs)) e ∙ (more ∙ sym (ap (λ b. drop (cond b (suc (reach p xs)) 0) (x ∷ xs)) e))
  by false e more = ap (λ b. cond b (skip p xs) (x ∷ xs)) e ∙ sym (ap (λ b. drop (cond b (suc (reach p xs)) 0) (x ∷ xs)) e)

-- the first that fails, and the first that passes
pub find_skip : {X : Type 0} (p : X → Bool) (xs : List X) → find (λ x. not (p x)) xs ≡ slice_get (skip p xs) 0
find_skip p [] = refl
find_skip p (x ∷ xs) = grind (arith, nat_tests, find_skip p xs)

pub find_filter : {X : Type 0} (p : X → Bool) (xs : List X) → find p xs ≡ slice_get (filter p xs) 0
find_filter p [] = refl
find_filter p (x ∷ xs) = grind (arith, nat_tests, find_filter p xs)

-- the items at the front that pass
abbrev pub leading : {X : Type 0} → (X → Bool) → List X → List X
leading p [] = []
leading p (x ∷ xs) = cond (p x) (x ∷ leading p xs) []

pub leading_is : {X : Type 0} (p : X → Bool) (xs : List X) → take_while p xs ≡ leading p xs
leading_is p [] = refl
leading_is p (x ∷ xs) = by (p x) refl (leading_is p xs) where
  by : (b : Bool) → p x ≡ b → take_while p xs ≡ leading p xs → take_while p (x ∷ xs) ≡ leading p (x ∷ xs)
  by true e more =
      let one : 1 + prefix_len p xs ≡ suc (prefix_len p xs) = omega arith in
      ap (λ b. take (cond b (1 + prefix_len p xs) 0) (x ∷ xs)) e ∙ (ap (λ n. take n (x ∷ xs)) one ∙ (ap (λ ys. x ∷ ys) more ∙ sym (ap (λ b. cond b (x ∷ leading p xs) []) e)))
  by false e more = ap (λ b. take (cond b (1 + prefix_len p xs) 0) (x ∷ xs)) e ∙ sym (ap (λ b. cond b (x ∷ leading p xs) []) e)

-- they are as many as are in reach
pub reach_leads : {X : Type 0} (p : X → Bool) (xs : List X) → take (reach p xs) xs ≡ leading p xs
reach_leads p [] = refl
reach_leads p (x ∷ xs) = by (p x) refl (reach_leads p xs) where
  by : (b : Bool) → p x ≡ b → take (reach p xs) xs ≡ leading p xs → take (reach p (x ∷ xs)) (x ∷ xs) ≡ leading p (x ∷ xs)
  by true e more = ap (λ b. take (cond b (suc (reach p xs)) 0) (x ∷ xs)) e ∙ (ap (λ ys. x ∷ ys) more ∙ sym (ap (λ b. cond b (x ∷ leading p xs) []) e))
  by false e more = ap (λ b. take (cond b (suc (reach p xs)) 0) (x ∷ xs)) e ∙ sym (ap (λ b. cond b (x ∷ leading p xs) []) e)

-- they are as many as a partition point tells
pub leading_take : {X : Type 0} (p : X → Bool) (xs : List X) (n : ℕ) → n ≤ length xs → list_all p (take n xs) ≡ true → list_all (λ x. not (p x)) (drop n xs) ≡ true → take n xs ≡ leading p xs
leading_take p [] zero le a b = refl
leading_take p [] (suc n) le a b = refl
leading_take p (x ∷ xs) zero le a b = grind (arith, nat_tests)
leading_take p (x ∷ xs) (suc n) le a b = grind (arith, nat_tests, leading_take p xs n)

pub parted_by : {X : Type 0} (p : X → Bool) (xs : List X) → is_parted p xs ≡ true → IsPartitionedBy p xs
parted_by p [] h i j d le lt e = absurd (omega arith)
parted_by p (x ∷ xs) h zero zero d le lt e = e
parted_by p (x ∷ xs) h zero (suc j) d le lt e = by (p x) refl where
  by : (b : Bool) → p x ≡ b → p x ≡ true
  by true u = u
  by false u = let n : p (get_or xs j d) ≡ false = grind (arith, nat_tests, all_at (λ y. not (p y)) xs j d) in grind (arith, nat_tests)
parted_by p (x ∷ xs) h (suc i) zero d le lt e = absurd (omega arith)
parted_by p (x ∷ xs) h (suc i) (suc j) d le lt e = by (λ k. parted_by p xs k i j d (omega arith) (omega arith) e) (p x) refl where
  by : (is_parted p xs ≡ true → p (get_or xs i d) ≡ true) → (b : Bool) → p x ≡ b → p (get_or xs i d) ≡ true
  by more true u = more (grind (arith, nat_tests))
  by more false u = let n : p (get_or xs j d) ≡ false = grind (arith, nat_tests, all_at (λ y. not (p y)) xs j d) in grind (arith, nat_tests)

pub front_passes : {X : Type 0} (p : X → Bool) (xs : List X) (n : ℕ) → n ≤ length xs → ((k : ℕ) (d : X) → 0 ≤ k → k < n → p (get_or xs k d) ≡ true) → list_all p (take n xs) ≡ true
front_passes p [] zero le h = refl
front_passes p [] (suc n) le h = refl
front_passes p (x ∷ xs) zero le h = refl
front_passes p (x ∷ xs) (suc n) le h =
    let first = h zero x (omega arith) (omega arith) in
    let more = front_passes p xs n (omega arith) (λ k d a b. h (suc k) d (omega arith) (omega arith)) in
    grind (arith, nat_tests, first, more)

pub rest_fails : {X : Type 0} (p : X → Bool) (xs : List X) (n : ℕ) → n ≤ length xs → ((k : ℕ) (d : X) → n ≤ k → k < length xs → p (get_or xs k d) ≡ false) → list_all (λ x. not (p x)) (drop n xs) ≡ true
rest_fails p [] zero le h = refl
rest_fails p [] (suc n) le h = refl
rest_fails p (x ∷ xs) zero le h =
    let first = h zero x (omega arith) (omega arith) in
    let more = rest_fails p xs zero (omega arith) (λ k d a b. h (suc k) d (omega arith) (omega arith)) in
    grind (arith, nat_tests, first, more)
rest_fails p (x ∷ xs) (suc n) le h = rest_fails p xs n (omega arith) (λ k d a b. h (suc k) d (omega arith) (omega arith))

-- the point that parts a list is where reach ends
pub skip_drop : {X : Type 0} (p : X → Bool) (xs : List X) (n : ℕ) → n ≤ length xs → list_all p (take n xs) ≡ true → list_all (λ x. not (p x)) (drop n xs) ≡ true → drop n xs ≡ skip p xs
skip_drop p [] zero le a b = refl
skip_drop p [] (suc n) le a b = refl
skip_drop p (x ∷ xs) zero le a b = grind (arith, nat_tests)
skip_drop p (x ∷ xs) (suc n) le a b = grind (arith, nat_tests, skip_drop p xs n)

pub reach_is : {X : Type 0} (p : X → Bool) (xs : List X) (n : ℕ) → n ≤ length xs → list_all p (take n xs) ≡ true → list_all (λ x. not (p x)) (drop n xs) ≡ true → n ≡ reach p xs
reach_is p [] zero le a b = refl
reach_is p [] (suc n) le a b = absurd (omega arith)
reach_is p (x ∷ xs) zero le a b = grind (arith, nat_tests)
reach_is p (x ∷ xs) (suc n) le a b = grind (arith, nat_tests, reach_is p xs n)

-- the first item that passes, where none before it does
pub find_here : {X : Type 0} (p : X → Bool) (xs : List X) (k : ℕ) (x : X) → find p (take k xs) ≡ None → k < length xs → x ≡ get_or xs k x → p x ≡ true → find p xs ≡ Some x
find_here p [] k x n lt e h = absurd (omega arith)
find_here p (y ∷ xs) zero x n lt e h = let same : p y ≡ true = ap p (sym e) ∙ h in let is = sym e in grind (arith, nat_tests)
find_here p (y ∷ xs) (suc k) x n lt e h = by (λ i. find_here p xs k x i (omega arith) e h) (p y) refl where
  by : (find p (take k xs) ≡ None → find p xs ≡ Some x) → (b : Bool) → p y ≡ b → find p (y ∷ xs) ≡ Some x
  by more true u = grind (arith, nat_tests)
  by more false u = grind (arith, nat_tests, more)

none_more : {X : Type 0} (p : X → Bool) (xs : List X) (k : ℕ) (x : X) → find p (take k xs) ≡ None → k < length xs → x ≡ get_or xs k x → p x ≡ false → find p (take (suc k) xs) ≡ None
none_more p [] k x n lt e h = refl
none_more p (y ∷ xs) zero x n lt e h = let same : p y ≡ false = ap p (sym e) ∙ h in grind (arith, nat_tests)
none_more p (y ∷ xs) (suc k) x n lt e h = by (λ i. none_more p xs k x i (omega arith) e h) (p y) refl where
  by : (find p (take k xs) ≡ None → find p (take (suc k) xs) ≡ None) → (b : Bool) → p y ≡ b → find p (take (suc (suc k)) (y ∷ xs)) ≡ None
  by more true u = grind (arith, nat_tests)
  by more false u = grind (arith, nat_tests, more)

pub none_here : {X : Type 0} (p : X → Bool) (xs : List X) (k : ℕ) (x : X) → find p (take k xs) ≡ None → k < length xs → x ≡ get_or xs k x → p x ≡ false → find p (take (k + 1) xs) ≡ None
none_here p xs k x n lt e h = let one : suc k ≡ k + 1 = omega arith in ap (λ m. find p (take m xs)) (sym one) ∙ none_more p xs k x n lt e h

-- where the last one passes, all of them do
pub all_leading : {X : Type 0} (p : X → Bool) (xs : List X) (x : X) → is_parted p xs ≡ true → slice_get xs (length xs - 1) ≡ Some x → p x ≡ true → take_while p xs ≡ xs
all_leading p xs x h e t =
    let below = slice_get_within xs (length xs - 1) x e in
    let last = read_above p xs (length xs - 1) x h below (sym (get_or_from_slice_get xs (length xs - 1) x x e)) t in
    let all : reach p xs ≡ length xs = let w = reach_within p xs in omega arith in
    let whole : take (length xs) xs ≡ xs = grind (arith, common_steps) in
    leading_is p xs ∙ (sym (reach_leads p xs) ∙ (ap (λ n. take n xs) all ∙ whole))
