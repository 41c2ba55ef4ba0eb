-- Tests over lists: what every crate above needs of `list_any`, `list_all`, `filter` and `map`, beside what std has.
use Rattle.std.proofs.Common.{◌≡◌, ℕ, eqb, ◌<◌, zero, suc, Bool, true, false, List, [], ◌∷◌, length, get_or, Some, None, refl, arith}
use Rattle.std.specs.Prelude.{filter, find, map}
use Rattle.std.specs.List.{list_any, list_all}
use Rattle.std.proofs.lemmas.Bool.Decides.{nat_tests}

-- tests that agree on every element
pub any_same : {X : Type 0} (f g : X → Bool) (xs : List X) → ((x : X) → f x ≡ g x) → list_any f xs ≡ list_any g xs
any_same f g [] h = refl
any_same f g (x ∷ xs) h = grind (arith, nat_tests, any_same f g xs h, h x)

pub all_same : {X : Type 0} (f g : X → Bool) (xs : List X) → ((x : X) → f x ≡ g x) → list_all f xs ≡ list_all g xs
all_same f g [] h = refl
all_same f g (x ∷ xs) h = grind (arith, nat_tests, all_same f g xs h, h x)

-- tests that agree on what passes p, as all elements do
pub any_same_on : {X : Type 0} (p f g : X → Bool) (xs : List X) → list_all p xs ≡ true → ((x : X) → p x ≡ true → f x ≡ g x)
    → list_any f xs ≡ list_any g xs
any_same_on p f g [] a h = refl
any_same_on p f g (x ∷ xs) a h = grind (arith, nat_tests, any_same_on p f g xs, h x)

pub all_same_on : {X : Type 0} (p f g : X → Bool) (xs : List X) → list_all p xs ≡ true → ((x : X) → p x ≡ true → f x ≡ g x)
    → list_all f xs ≡ list_all g xs
all_same_on p f g [] a h = refl
all_same_on p f g (x ∷ xs) a h = grind (arith, nat_tests, all_same_on p f g xs, h x)

pub filter_same_on : {X : Type 0} (p f g : X → Bool) (xs : List X) → list_all p xs ≡ true → ((x : X) → p x ≡ true → f x ≡ g x)
    → filter f xs ≡ filter g xs
filter_same_on p f g [] a h = refl
filter_same_on p f g (x ∷ xs) a h = grind (arith, nat_tests, filter_same_on p f g xs, h x)

-- a test that fails on what passes p, as all elements do
pub any_none : {X : Type 0} (p f : X → Bool) (xs : List X) → list_all p xs ≡ true → ((x : X) → p x ≡ true → f x ≡ false)
    → list_any f xs ≡ false
any_none p f [] a h = refl
any_none p f (x ∷ xs) a h = grind (arith, nat_tests, any_none p f xs, h x)

-- a wider test
pub any_wider : {X : Type 0} (f g : X → Bool) (xs : List X) → ((x : X) → f x ≡ true → g x ≡ true) → list_any f xs ≡ true
    → list_any g xs ≡ true
any_wider f g [] h a = a
any_wider f g (x ∷ xs) h a = grind (arith, nat_tests, any_wider f g xs h, h x)

pub all_wider : {X : Type 0} (f g : X → Bool) (xs : List X) → ((x : X) → f x ≡ true → g x ≡ true) → list_all f xs ≡ true
    → list_all g xs ≡ true
all_wider f g [] h a = refl
all_wider f g (x ∷ xs) h a = grind (arith, nat_tests, all_wider f g xs h, h x)

-- an element passes f, and each passes g
pub any_meets_all : {X : Type 0} (f g : X → Bool) (r : Bool) (xs : List X) → ((x : X) → f x ≡ true → g x ≡ true → r ≡ true)
    → list_any f xs ≡ true → list_all g xs ≡ true → r ≡ true
any_meets_all f g r [] h a b = grind (arith, nat_tests)
any_meets_all f g r (x ∷ xs) h a b = grind (arith, nat_tests, any_meets_all f g r xs h, h x)

-- what all elements pass, those that a filter keeps pass
pub all-filter : {X : Type 0} (p f : X → Bool) (xs : List X) → list_all f xs ≡ true → list_all f (filter p xs) ≡ true
all-filter p f [] a = refl
all-filter p f (x ∷ xs) a = grind (arith, nat_tests, all-filter p f xs)

pub any-filter : {X : Type 0} (p f : X → Bool) (xs : List X) → list_any f (filter p xs) ≡ true → list_any f xs ≡ true
any-filter p f [] a = a
any-filter p f (x ∷ xs) a = grind (arith, nat_tests, any-filter p f xs)

-- what a filter keeps passes it
pub filter_passes : {X : Type 0} (p : X → Bool) (xs : List X) → list_all p (filter p xs) ≡ true
filter_passes p [] = refl
filter_passes p (x ∷ xs) = grind (arith, nat_tests, filter_passes p xs)

-- a filter that keeps all
pub filter_all : {X : Type 0} (p : X → Bool) (xs : List X) → list_all p xs ≡ true → filter p xs ≡ xs
filter_all p [] a = refl
filter_all p (x ∷ xs) a = grind (arith, nat_tests, filter_all p xs)

-- a narrower filter over a wider one
pub filter-filter : {X : Type 0} (p q : X → Bool) (xs : List X) → ((x : X) → q x ≡ true → p x ≡ true)
    → filter q (filter p xs) ≡ filter q xs
filter-filter p q [] h = refl
filter-filter p q (x ∷ xs) h = grind (arith, nat_tests, filter-filter p q xs h, h x)

-- a test that finds only what the filter keeps
pub any_within_filter : {X : Type 0} (p q : X → Bool) (xs : List X) → ((x : X) → q x ≡ true → p x ≡ true)
    → list_any q (filter p xs) ≡ list_any q xs
any_within_filter p q [] h = refl
any_within_filter p q (x ∷ xs) h = grind (arith, nat_tests, any_within_filter p q xs h, h x)

-- the same, where all elements pass r
pub any_within_filter_on : {X : Type 0} (r p q : X → Bool) (xs : List X) → list_all r xs ≡ true
    → ((x : X) → r x ≡ true → q x ≡ true → p x ≡ true) → list_any q (filter p xs) ≡ list_any q xs
any_within_filter_on r p q [] a h = refl
any_within_filter_on r p q (x ∷ xs) a h = grind (arith, nat_tests, any_within_filter_on r p q xs, h x)

pub any-map : {X Y : Type 0} (p : Y → Bool) (f : X → Y) (xs : List X) → list_any p (map f xs) ≡ list_any (λ x. p (f x)) xs
any-map p f [] = refl
any-map p f (x ∷ xs) = grind (arith, nat_tests, any-map p f xs)

-- two functions that agree
pub map_same : {X Y : Type 0} (f g : X → Y) (xs : List X) → ((x : X) → f x ≡ g x) → map f xs ≡ map g xs
map_same f g [] h = refl
map_same f g (x ∷ xs) h =
    let one = h x in
    let two = map_same f g xs h in
    cc

pub map_same_on : {X Y : Type 0} (p : X → Bool) (f g : X → Y) (xs : List X) → list_all p xs ≡ true
    → ((x : X) → p x ≡ true → f x ≡ g x) → map f xs ≡ map g xs
map_same_on p f g [] a h = refl
map_same_on p f g (x ∷ xs) a h =
    let parts : (p x ≡ true) × (list_all p xs ≡ true) = grind (arith, nat_tests) in
    let one = h x parts.0 in
    let two = map_same_on p f g xs parts.1 h in
    cc

-- the element at a place passes what all pass
pub all_at : {X : Type 0} (p : X → Bool) (xs : List X) (i : ℕ) (d : X) → list_all p xs ≡ true → i < length xs → p (get_or xs i d) ≡ true
all_at p [] i d a h = absurd (omega arith)
all_at p (x ∷ xs) zero d a h = grind (arith, nat_tests)
all_at p (x ∷ xs) (suc i) d a h = grind (arith, nat_tests, all_at p xs i d)

-- some number of the list passes, and it is in the list
pub any_of_itself : (f : ℕ → Bool) (r : Bool) (list : List ℕ)
    → ((u : ℕ) → f u ≡ true → list_any (λ v. eqb u v) list ≡ true → r ≡ true) → list_any f list ≡ true → r ≡ true
any_of_itself f r [] h a = grind (arith, nat_tests)
any_of_itself f r (u ∷ us) h a = grind (arith, nat_tests, h u, any_of_itself f r us (λ v i j. h v i (grind (arith, nat_tests))))

-- what each number of a list passes
pub all_of_itself : (f : ℕ → Bool) (list : List ℕ) → ((u : ℕ) → list_any (λ v. eqb u v) list ≡ true → f u ≡ true)
    → list_all f list ≡ true
all_of_itself f [] h = refl
all_of_itself f (u ∷ us) h = grind (arith, nat_tests, h u, all_of_itself f us (λ v i. h v (grind (arith, nat_tests))))

-- what a search says of whether some element passes
pub some_found : {X : Type 0} (p : X → Bool) (xs : List X) (x : X) → find p xs ≡ Some x → list_any p xs ≡ true
some_found p [] x e = cc
some_found p (y ∷ xs) x e = grind (arith, nat_tests, some_found p xs x)

pub none_found : {X : Type 0} (p : X → Bool) (xs : List X) → find p xs ≡ None → list_any p xs ≡ false
none_found p [] e = refl
none_found p (y ∷ xs) e = grind (arith, nat_tests, none_found p xs)
