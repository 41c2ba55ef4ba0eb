-- Languages whose values all pass a test.
use Rattle.std.proofs.Common.{◌≡◌, ℕ, zero, suc, Bool, true, ◌&&◌, List, [], ◌∷◌, ◌++◌, refl, ap, ◌∙◌, inl, inr}
use Rattle.std.specs.Prelude.{◌⊎◌}
use Rattle.std.specs.List.{list_all}
use Rattle.std.proofs.lemmas.Bool.{and_parts}
use Rattle.ifdb_syntax.specs.Words.{Lexemes}
use Rattle.ifdb_syntax.specs.Lang.{Lang, Then, nothing, rounds, repeat, parens, separated, next_member}
use Rattle.ifdb_syntax.specs.Shapes.{some_member}

-- each value that the language spells passes
abbrev pub Makes : {A : Type 0} → Lang A → (A → Bool) → Type 0
Makes {A} l p = (u : Lexemes) (a : A) → l u a → p a ≡ true

pub any_makes : {A : Type 0} (l : Lang A) → Makes l (λ _. true)
any_makes l = λ u a h. refl

pub nothing_makes : {A : Type 0} (p : A → Bool) (x : A) → p x ≡ true → Makes (nothing x) p
nothing_makes p x e = λ u a h. ap p h.1 ∙ e

pub then_makes : {A B : Type 0} (q : A → Bool) (p : B → Bool) (l : Lang A) (m : A → Lang B) → Makes l q → ((a : A) → q a ≡ true → Makes (m a) p) → Makes (λ u b. Then l m u b) p
then_makes q p l m hl hm = λ u b w. hm w.value (hl w.front w.value w.first) w.back b w.second

-- a first part of which nothing is asked
pub next_makes : {A B : Type 0} (p : B → Bool) (l : Lang A) (m : A → Lang B) → ((a : A) → Makes (m a) p) → Makes (λ u b. Then l m u b) p
next_makes p l m hm = λ u b w. hm w.value w.back b w.second

pub or_makes : {A : Type 0} (p : A → Bool) (l k : Lang A) → Makes l p → Makes k p → Makes (λ u a. l u a ⊎ k u a) p
or_makes p l k hl hk = λ u a h. elim h [ inl x ↦ hl u a x | inr y ↦ hk u a y ]

rounds_makes : {X : Type 0} (p : X → Bool) (step : X → Lang X) → ((x : X) → p x ≡ true → Makes (step x) p) → (n : ℕ) (x : X) → p x ≡ true → Makes (rounds step n x) p
rounds_makes p step h zero x e = nothing_makes p x e
rounds_makes p step h (suc n) x e =
    or_makes p _ (nothing x) (then_makes p p (step x) (rounds step n) (h x e) (λ y k. rounds_makes p step h n y k)) (nothing_makes p x e)

pub repeat_makes : {X : Type 0} (p : X → Bool) (step : X → Lang X) → ((x : X) → p x ≡ true → Makes (step x) p) → (x : X) → p x ≡ true → Makes (repeat step x) p
repeat_makes p step h x e = λ u a w. rounds_makes p step h w.0 x e u a w.1

pub parens_makes : {A : Type 0} (p : A → Bool) (l : Lang A) → Makes l p → Makes (parens l) p
parens_makes p l h = next_makes p _ _ (λ _. then_makes p p l _ h (λ x e. next_makes p _ _ (λ _. nothing_makes p x e)))

-- ---- lists

-- a member or more, and each passes
abbrev pub some_all : {X : Type 0} → (X → Bool) → List X → Bool
some_all p xs = some_member xs && list_all p xs

pub all_append : {X : Type 0} (p : X → Bool) (xs : List X) (x : X) → list_all p xs ≡ true → p x ≡ true → list_all p (xs ++ x ∷ []) ≡ true
all_append p [] x h e = rw e refl
all_append p (y ∷ xs) x h e = let ab = and_parts (p y) (list_all p xs) h in rw ab.0 (all_append p xs x ab.1 e)

pub some_append : {X : Type 0} (xs : List X) (x : X) → some_member (xs ++ x ∷ []) ≡ true
some_append [] x = refl
some_append (y ∷ xs) x = refl

pub some_all_append : {X : Type 0} (p : X → Bool) (xs : List X) (x : X) → some_all p xs ≡ true → p x ≡ true → some_all p (xs ++ x ∷ []) ≡ true
some_all_append p xs x h e = rw (some_append xs x) (all_append p xs x (and_parts (some_member xs) (list_all p xs) h).1 e)

pub separated_makes : {X : Type 0} (p : X → Bool) (k : ℕ) (l : Lang X) → Makes l p → Makes (separated k l) (some_all p)
separated_makes p k l h =
    then_makes p (some_all p) l _ h (λ x e. repeat_makes (some_all p) (next_member k l)
    (λ found all. next_makes (some_all p) _ _ (λ _. then_makes p (some_all p) l _ h (λ y f. nothing_makes (some_all p) (found ++ y ∷ []) (some_all_append p found y all f)))) (x ∷ []) (rw e refl))

-- by a stronger test
pub by_stronger : {A : Type 0} (q p : A → Bool) (l : Lang A) → ((a : A) → q a ≡ true → p a ≡ true) → Makes l q → Makes l p
by_stronger q p l weaker h = λ u a k. weaker a (h u a k)

pub some_makes : {X : Type 0} (k : ℕ) (l : Lang X) → Makes (separated k l) some_member
some_makes k l =
    by_stronger (some_all (λ _. true)) some_member (separated k l) (λ xs h. (and_parts (some_member xs) (list_all (λ _. true) xs) h).0) (separated_makes (λ _. true) k l (any_makes l))
