-- Lists of which each element passes a test.
use Rattle.std.proofs.Common.{◌≡◌, ℕ, zero, suc, Bool, true, false, List, [], ◌∷◌, ◌++◌, refl, ◌∙◌, cond}
use Rattle.std.specs.Prelude.{map, flat_map, slice_index_or, slice_set, take, drop}
use Rattle.std.specs.List.{list_all}
use Rattle.std.proofs.lemmas.Bool.{and_parts}
use Rattle.std.proofs.lemmas.List.Folds.{list_all-append}
use Rattle.ifdb_catalog.proofs.Tests.{both_of}

-- what both cases pass
pub pick : {X : Type 0} (p : X → Bool) (b : Bool) (x y : X) → p x ≡ true → p y ≡ true → p (cond b x y) ≡ true
pick p true x y h k = h
pick p false x y h k = k

pub all_append : {X : Type 0} (p : X → Bool) (xs ys : List X) → list_all p xs ≡ true → list_all p ys ≡ true → list_all p (xs ++ ys) ≡ true
all_append p xs ys h k = list_all-append p xs ys ∙ both_of (list_all p xs) (list_all p ys) h k

pub all_push : {X : Type 0} (p : X → Bool) (xs : List X) (x : X) → list_all p xs ≡ true → p x ≡ true → list_all p (xs ++ x ∷ []) ≡ true
all_push p xs x h k = all_append p xs (x ∷ []) h (both_of (p x) true k refl)

pub all_map : {X Y : Type 0} (q : X → Bool) (p : Y → Bool) (f : X → Y) (xs : List X) → ((x : X) → q x ≡ true → p (f x) ≡ true) → list_all q xs ≡ true → list_all p (map f xs) ≡ true
all_map q p f [] h k = refl
all_map q p f (x ∷ xs) h k =
    let parts = and_parts (q x) (list_all q xs) k in
    both_of (p (f x)) (list_all p (map f xs)) (h x parts.0) (all_map q p f xs h parts.1)

pub all_flat_map : {X Y : Type 0} (q : X → Bool) (p : Y → Bool) (f : X → List Y) (xs : List X) → ((x : X) → q x ≡ true → list_all p (f x) ≡ true) → list_all q xs ≡ true → list_all p (flat_map f xs) ≡ true
all_flat_map q p f [] h k = refl
all_flat_map q p f (x ∷ xs) h k =
    let parts = and_parts (q x) (list_all q xs) k in
    all_append p (f x) (flat_map f xs) (h x parts.0) (all_flat_map q p f xs h parts.1)

-- always passed
abbrev pub any : {X : Type 0} → X → Bool
any x = true

pub all_any : {X : Type 0} (xs : List X) → list_all any xs ≡ true
all_any [] = refl
all_any (x ∷ xs) = all_any xs

-- where each image passes
pub each_map : {X Y : Type 0} (p : Y → Bool) (f : X → Y) (xs : List X) → ((x : X) → p (f x) ≡ true) → list_all p (map f xs) ≡ true
each_map p f xs h = all_map any p f xs (λ x e. h x) (all_any xs)

pub all_take : {X : Type 0} (p : X → Bool) (n : ℕ) (xs : List X) → list_all p xs ≡ true → list_all p (take n xs) ≡ true
all_take p zero [] h = refl
all_take p zero (x ∷ xs) h = refl
all_take p (suc n) [] h = refl
all_take p (suc n) (x ∷ xs) h =
    let parts = and_parts (p x) (list_all p xs) h in
    both_of (p x) (list_all p (take n xs)) parts.0 (all_take p n xs parts.1)

pub all_drop : {X : Type 0} (p : X → Bool) (n : ℕ) (xs : List X) → list_all p xs ≡ true → list_all p (drop n xs) ≡ true
all_drop p zero [] h = refl
all_drop p zero (x ∷ xs) h = h
all_drop p (suc n) [] h = refl
all_drop p (suc n) (x ∷ xs) h = all_drop p n xs (and_parts (p x) (list_all p xs) h).1

-- the element at a place, or what stands for it
pub at_or : {X : Type 0} (p : X → Bool) (d : X) (xs : List X) (i : ℕ) → p d ≡ true → list_all p xs ≡ true → p (slice_index_or xs i d) ≡ true
at_or p d [] i e h = e
at_or p d (x ∷ xs) zero e h = (and_parts (p x) (list_all p xs) h).0
at_or p d (x ∷ xs) (suc i) e h = at_or p d xs i e (and_parts (p x) (list_all p xs) h).1

pub all_set : {X : Type 0} (p : X → Bool) (xs : List X) (i : ℕ) (v : X) → list_all p xs ≡ true → p v ≡ true → list_all p (slice_set xs i v) ≡ true
all_set p [] i v h k = refl
all_set p (x ∷ xs) zero v h k = both_of (p v) (list_all p xs) k (and_parts (p x) (list_all p xs) h).1
all_set p (x ∷ xs) (suc i) v h k =
    let parts = and_parts (p x) (list_all p xs) h in
    both_of (p x) (list_all p (slice_set xs i v)) parts.0 (all_set p xs i v parts.1 k)
