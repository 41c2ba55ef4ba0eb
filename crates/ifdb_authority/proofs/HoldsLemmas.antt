-- Chains that a search goes back over, and what it shows where it ends.
use Rattle.std.proofs.Common.{◌≡◌, ℕ, Bool, true, false, List, [], ◌∷◌, refl, sym, ap, ◌∙◌, subst, arith, ◌&&◌, eqb, ltb, zero, suc, ◌<◌, ◌≤◌, true≢false}
use Rattle.std.specs.List.{list_any, list_all}
use Rattle.std.proofs.lemmas.Bool.{eqb-true, ltb-true}
use Rattle.std.proofs.lemmas.Bool.Decides.{nat_tests}
use Rattle.ifdb_label.specs.Tags.{MadeTag, below, parents_of, AreWellFormed}
use Rattle.ifdb_label.specs.Ancestors.{has}
use Rattle.ifdb_label.proofs.TagLaws.{below_unfolds, below_refl}
use Rattle.ifdb_authority.specs.declared.grant.Grant.{Grant}
use Rattle.ifdb_authority.specs.Authority.{Delegation, stands, holds_in, Holds, grant}
use Rattle.ifdb_authority.proofs.Chains.{any_there, any_wider, any_wider_on}

-- one step more of a chain: by a grant
pub holds-by_grant : (tags : List MadeTag) (a : Delegation) (q p t : ℕ) → stands a (grant q t p) ≡ true → Holds tags a q t → Holds tags a p t
holds-by_grant tags a q p t s (k, h) =
    let led = any_there (λ (g : Grant). (eqb g.tag t && eqb g.to p) && holds_in tags a k g.from t) (grant q t p) a.grants s (grind (arith, nat_tests, h)) in
    (suc k, grind (arith, nat_tests, led))

-- one of a list that the principal holds, by one number of steps
holds_some : (tags : List MadeTag) (a : Delegation) (p : ℕ) (f : ℕ → Bool) → ((u : ℕ) → f u ≡ true → Holds tags a p u) → (list : List ℕ) → list_any f list ≡ true
    → (k : ℕ) × (list_any (λ u. holds_in tags a k p u) list ≡ true)
holds_some tags a p f h [] e = absurd (true≢false (sym e))
holds_some tags a p f h (u ∷ list) e = by (f u) refl (λ g. holds_some tags a p f h list g) where
  first : Holds tags a p u → (k : ℕ) × (list_any (λ v. holds_in tags a k p v) (u ∷ list) ≡ true)
  first (k, held) = (k, grind (arith, nat_tests))

  rest : (k : ℕ) × (list_any (λ v. holds_in tags a k p v) list ≡ true) → (k : ℕ) × (list_any (λ v. holds_in tags a k p v) (u ∷ list) ≡ true)
  rest (k, held) = (k, grind (arith, nat_tests))

  by : (b : Bool) → f u ≡ b → (list_any f list ≡ true → (k : ℕ) × (list_any (λ v. holds_in tags a k p v) list ≡ true)) → (k : ℕ) × (list_any (λ v. holds_in tags a k p v) (u ∷ list) ≡ true)
  by true g ih = first (h u g)
  by false g ih = rest (ih (grind (arith, nat_tests)))

pub both : (q f : ℕ → Bool) (list : List ℕ) → list_all q list ≡ true → list_any f list ≡ true → list_any (λ u. q u && f u) list ≡ true
both q f list a e = any_wider_on q f (λ u. q u && f u) list a (λ u i j. grind (arith, nat_tests)) e

holds_below_step : (tags : List MadeTag) (a : Delegation) → AreWellFormed tags → (p t u : ℕ) → below tags t u ≡ true → Holds tags a p u
    → ((v : ℕ) → v < t → below tags v u ≡ true → Holds tags a p v) → Holds tags a p t
holds_below_step tags a w p t u b h ih = by (eqb t u) refl where
  same : eqb t u ≡ true → Holds tags a p t
  same e = let P : ℕ → Type 0 = λ v. Holds tags a p v in subst P (sym (eqb-true t u e)) h

  up : (k : ℕ) × (list_any (λ v. holds_in tags a k p v) (parents_of tags t) ≡ true) → Holds tags a p t
  up (k, e) = (suc k, grind (arith, nat_tests))

  by : (r : Bool) → eqb t u ≡ r → Holds tags a p t
  by true e = same e
  by false e =
      let parents = both (λ v. ltb v t) (λ v. below tags v u) (parents_of tags t) (w.older t) (grind (arith, nat_tests, below_unfolds tags w t u)) in
      up (holds_some tags a p (λ v. ltb v t && below tags v u) (λ v i. ih v (ltb-true v t (grind (arith, nat_tests))) (grind (arith, nat_tests))) (parents_of tags t) parents)

holds_below_in : (tags : List MadeTag) (a : Delegation) → AreWellFormed tags → (n p t u : ℕ) → t ≤ n → below tags t u ≡ true → Holds tags a p u → Holds tags a p t
holds_below_in tags a w zero p t u le b h = holds_below_step tags a w p t u b h (λ v lt e. absurd (omega arith))
holds_below_in tags a w (suc n) p t u le b h = holds_below_step tags a w p t u b h (λ v lt e. holds_below_in tags a w n p v u (omega arith) e h)

-- who holds a compound holds each tag below it
pub holds_below : (tags : List MadeTag) (a : Delegation) → AreWellFormed tags → (p t u : ℕ) → below tags t u ≡ true → Holds tags a p u → Holds tags a p t
holds_below tags a w p t u b h = let le : t ≤ t = omega arith in holds_below_in tags a w t p t u le b h

-- a parent is above
pub parent_above : (tags : List MadeTag) → AreWellFormed tags → (t u : ℕ) → has (parents_of tags t) u ≡ true → below tags t u ≡ true
parent_above tags w t u e =
    let up = any_wider (λ v. eqb v u) (λ v. below tags v u) (parents_of tags t) (λ v i. ap (λ x. below tags x u) (eqb-true v u i) ∙ below_refl tags u) e in
    grind (arith, nat_tests, below_unfolds tags w t u, up)

-- some parent passes, and it is one
pub some_of : (f : ℕ → Bool) (r : Bool) (list : List ℕ) → ((u : ℕ) → f u ≡ true → has list u ≡ true → r ≡ true) → list_any f list ≡ true → r ≡ true
some_of f r [] h a = grind (arith, nat_tests)
some_of f r (u ∷ us) h a = grind (arith, nat_tests, h u, some_of f r us (λ v i j. h v i (grind (arith, nat_tests))))
