-- The values of slots, where one slot changes.
use Rattle.std.proofs.Common.{◌≡◌, ◌≢◌, ℕ, suc, zero, List, [], ◌∷◌, get_or, map, refl, sym, ap, subst, ◌∙◌, arith}
use Rattle.std.specs.Prelude.{filter_map, IsPermutation}
use Rattle.std.specs.declared.option.Option.{Option}
use Rattle.std.specs.declared.option.Option.TheVariants.{None, Some}
use Rattle.std.proofs.lemmas.List.Sorted.{IsPermutation-refl, IsPermutation-sym, IsPermutation-trans, IsPermutation-cons, IsPermutation-middle}
use Rattle.ifdb_loop.proofs.Endings.{none_some, some_is}

module _ {A : Type 0} where
  -- the values of some slots
  abbrev pub values_of : List (Option A) → List A
  values_of slots = filter_map (λ slot. slot) slots

  -- there is nothing in any slot
  pub values_none : (slots : List (Option A)) → ((j : ℕ) → get_or slots j None ≡ None) → values_of slots ≡ []
  values_none [] none = refl
  values_none (None ∷ slots) none = values_none slots (λ j. none (suc j))
  values_none (Some x ∷ slots) none = absurd (none_some x (sym (none 0)))

  same_none : (slots : List (Option A)) → ((j : ℕ) → None ≡ get_or slots j None) → values_of slots ≡ []
  same_none slots same = values_none slots (λ j. sym (same j))

module _ {A B : Type 0} (f : A → B) where
  abbrev pub seen : Option A → Option B
  seen None = None
  seen (Some x) = Some (f x)

  -- what is seen of the values
  abbrev pub seen_in : List (Option A) → List B
  seen_in slots = map f (values_of slots)

  none_seen : (o : Option A) → seen o ≡ None → o ≡ None
  none_seen None e = refl
  none_seen (Some x) e = absurd (none_some (f x) (sym e))

  heads_same : (a b : Option A) (xs ys : List (Option A)) → seen a ≡ seen b → seen_in xs ≡ seen_in ys → seen_in (a ∷ xs) ≡ seen_in (b ∷ ys)
  heads_same None None xs ys e same = same
  heads_same None (Some y) xs ys e same = absurd (none_some (f y) e)
  heads_same (Some x) None xs ys e same = absurd (none_some (f x) (sym e))
  heads_same (Some x) (Some y) xs ys e same = ap (λ z. z ∷ seen_in xs) (some_is (f x) (f y) e) ∙ ap (λ zs. f y ∷ zs) same

  -- the same is seen in each slot
  pub values_same : (xs ys : List (Option A)) → ((j : ℕ) → seen (get_or ys j None) ≡ seen (get_or xs j None)) → seen_in ys ≡ seen_in xs
  values_same [] ys same = ap (map f) (values_none ys (λ j. none_seen (get_or ys j None) (same j)))
  values_same (x ∷ xs) [] same = sym (ap (map f) (values_none (x ∷ xs) (λ j. none_seen (get_or (x ∷ xs) j None) (sym (same j)))))
  values_same (x ∷ xs) (y ∷ ys) same = heads_same y x ys xs (same 0) (values_same xs ys (λ j. same (suc j)))

  -- a slot that was empty has a value now
  more_here : (v : A) (x y : Option A) (xs ys : List (Option A)) → x ≡ None → y ≡ Some v → ((j : ℕ) → get_or ys j None ≡ get_or xs j None)
      → IsPermutation (f v ∷ seen_in (x ∷ xs)) (seen_in (y ∷ ys))
  more_here v x y xs ys none is same =
      rw (none, is) (subst (λ zs. IsPermutation (f v ∷ seen_in xs) (f v ∷ zs)) (sym (values_same xs ys (λ j. ap seen (same j)))) (IsPermutation-refl _))

  more_behind : (v : A) (x y : Option A) (xs ys : List (Option A)) → y ≡ x → IsPermutation (f v ∷ seen_in xs) (seen_in ys)
      → IsPermutation (f v ∷ seen_in (x ∷ xs)) (seen_in (y ∷ ys))
  more_behind v None y xs ys same more = rw same more
  more_behind v (Some x) y xs ys same more =
      rw same (IsPermutation-trans _ _ _ (IsPermutation-sym _ _ (IsPermutation-middle (f x ∷ []) (f v) (seen_in xs))) (IsPermutation-cons (f x) _ _ more))

  pub values_more : (k : ℕ) (v : A) (xs ys : List (Option A)) → get_or xs k None ≡ None → get_or ys k None ≡ Some v
      → ((j : ℕ) → j ≢ k → get_or ys j None ≡ get_or xs j None) → IsPermutation (f v ∷ seen_in xs) (seen_in ys)
  values_more k v xs [] none is same = absurd (none_some v is)
  values_more zero v [] (y ∷ ys) none is same = more_here v None y [] ys refl is (λ j. same (suc j) (λ e. grind (arith, e)))
  values_more zero v (x ∷ xs) (y ∷ ys) none is same = more_here v x y xs ys none is (λ j. same (suc j) (λ e. grind (arith, e)))
  values_more (suc k) v [] (y ∷ ys) none is same =
      more_behind v None y [] ys (same 0 (λ e. grind (arith, e))) (values_more k v [] ys refl is (λ j o. same (suc j) (λ e. o (grind (arith, e)))))
  values_more (suc k) v (x ∷ xs) (y ∷ ys) none is same =
      more_behind v x y xs ys (same 0 (λ e. grind (arith, e))) (values_more k v xs ys none is (λ j o. same (suc j) (λ e. o (grind (arith, e)))))
