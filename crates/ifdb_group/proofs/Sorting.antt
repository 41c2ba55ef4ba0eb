-- A stable sort is insertion sort.
use Rattle.std.proofs.Common.{◌≡◌, ℕ, zero, suc, ◌<◌, ◌≤◌, Bool, true, false, cond, not, ◌&&◌, List, [], ◌∷◌, length, get_or, filter, refl, sym, ap, ◌∙◌, arith, suc-le-suc, zero-le, inl, inr}
use Rattle.std.proofs.lemmas.Bool.{cond-true, cond-false, cases_Bool}
use Rattle.std.proofs.lemmas.Bool.Decides.{nat_tests}
use Rattle.std.proofs.lemmas.List.Sorted.{sorted_far}
use Rattle.std.specs.List.{list_all}
use Rattle.std.specs.List.Sorted.{ties, IsSortedBy, IsStableBy}
use Rattle.std.specs.Cmp.{IsStrictWeakOrder}
use Rattle.ifdb_group.specs.Sort.{put_in, in_order}

module _ {X : Type 0} (lt : X → X → Bool) (o : IsStrictWeakOrder lt) where
  -- no element is less than an earlier one
  abbrev none_less : X → List X → Bool
  none_less y ys = list_all (λ w. not (lt w y)) ys

  abbrev rises : List X → Bool
  rises [] = true
  rises (y ∷ ys) = none_less y ys && rises ys

  itself : (x : X) → lt x x ≡ false
  itself x = elim (cases_Bool (lt x x)) [ inl hit ↦ o.one_way x x hit | inr miss ↦ miss ]

  ties_itself : (x : X) → ties lt x x ≡ true
  ties_itself x = let h = itself x in grind (arith, nat_tests)

  kept : (p : X → Bool) (y : X) (ys : List X) → p y ≡ true → filter p (y ∷ ys) ≡ y ∷ filter p ys
  kept p y ys h = cond-true _ _ _ h

  dropped : (p : X → Bool) (y : X) (ys : List X) → p y ≡ false → filter p (y ∷ ys) ≡ filter p ys
  dropped p y ys h = cond-false _ _ _ h

  put_past : (r s : X) (rows : List X) → lt s r ≡ true → put_in lt r (s ∷ rows) ≡ s ∷ put_in lt r rows
  put_past r s rows h = cond-true _ _ _ h

  put_here : (r s : X) (rows : List X) → lt s r ≡ false → put_in lt r (s ∷ rows) ≡ r ∷ s ∷ rows
  put_here r s rows h = cond-false _ _ _ h

  apart : (x r s : X) → lt s r ≡ true → ties lt x r ≡ true → ties lt x s ≡ false
  apart x r s h a = let c = o.chain s x r in grind (arith, nat_tests, c)

  filter_put : (x r : X) (rows : List X) → filter (ties lt x) (put_in lt r rows) ≡ filter (ties lt x) (r ∷ rows)
  filter_put x r [] = refl
  filter_put x r (s ∷ rows) =
      let p = ties lt x in
      elim (cases_Bool (lt s r)) [
        | inr miss ↦ ap (filter p) (put_here r s rows miss)
        | inl hit ↦
            ap (filter p) (put_past r s rows hit)
            ∙ elim (cases_Bool (p r)) [
              | inl with ↦
                  dropped p s (put_in lt r rows) (apart x r s hit with) ∙ filter_put x r rows ∙ kept p r rows with
                  ∙ ap (λ l. r ∷ l) (sym (dropped p s rows (apart x r s hit with))) ∙ sym (kept p r (s ∷ rows) with)
              | inr without ↦
                  ap (λ l. cond (p s) (s ∷ l) l) (filter_put x r rows ∙ dropped p r rows without)
                  ∙ sym (dropped p r (s ∷ rows) without)
            ]
      ]

  filter_sorted : (x : X) (rows : List X) → filter (ties lt x) (in_order lt rows) ≡ filter (ties lt x) rows
  filter_sorted x [] = refl
  filter_sorted x (r ∷ rows) = filter_put x r (in_order lt rows) ∙ ap (λ l. cond (ties lt x r) (r ∷ l) l) (filter_sorted x rows)

  put_all : (q : X → Bool) (r : X) (rows : List X) → q r ≡ true → list_all q rows ≡ true → list_all q (put_in lt r rows) ≡ true
  put_all q r [] h k = grind (arith, nat_tests)
  put_all q r (s ∷ rows) h k =
      let parts : (q s ≡ true) × (list_all q rows ≡ true) = grind (arith, nat_tests) in
      let ih = put_all q r rows h parts.1 in
      elim (cases_Bool (lt s r)) [
        | inr miss ↦ ap (list_all q) (put_here r s rows miss) ∙ grind (arith, nat_tests)
        | inl hit ↦ ap (list_all q) (put_past r s rows hit) ∙ grind (arith, nat_tests)
      ]

  less_less : (s r : X) (rows : List X) → lt s r ≡ false → none_less s rows ≡ true → none_less r rows ≡ true
  less_less s r [] h k = refl
  less_less s r (w ∷ rows) h k =
      let parts : (lt w s ≡ false) × (none_less s rows ≡ true) = grind (arith, nat_tests) in
      let one = o.chain w s r parts.0 h in
      let ih = less_less s r rows h parts.1 in
      grind (arith, nat_tests)

  rises_put : (r : X) (rows : List X) → rises rows ≡ true → rises (put_in lt r rows) ≡ true
  rises_put r [] h = refl
  rises_put r (s ∷ rows) h =
      let parts : (none_less s rows ≡ true) × (rises rows ≡ true) = grind (arith, nat_tests) in
      elim (cases_Bool (lt s r)) [
        | inr miss ↦
            let all = less_less s r rows miss parts.0 in
            ap rises (put_here r s rows miss) ∙ grind (arith, nat_tests)
        | inl hit ↦
            let back = o.one_way s r hit in
            let all = put_all (λ w. not (lt w s)) r rows (grind (arith, nat_tests)) parts.0 in
            let ih = rises_put r rows parts.1 in
            ap rises (put_past r s rows hit) ∙ grind (arith, nat_tests)
      ]

  rises_sorted : (rows : List X) → rises (in_order lt rows) ≡ true
  rises_sorted [] = refl
  rises_sorted (r ∷ rows) = rises_put r (in_order lt rows) (rises_sorted rows)

  none_at : (y : X) (ys : List X) → ((j : ℕ) → j < length ys → lt (get_or ys j y) y ≡ false) → none_less y ys ≡ true
  none_at y [] h = refl
  none_at y (z ∷ ys) h =
      let first : lt z y ≡ false = h zero (suc-le-suc zero-le) in
      let ih = none_at y ys (λ j k. h (suc j) (suc-le-suc k)) in
      grind (arith, nat_tests)

  rises_far : (ys : List X) → ((i j : ℕ) (d : X) → i ≤ j → j < length ys → lt (get_or ys j d) (get_or ys i d) ≡ false) → rises ys ≡ true
  rises_far [] h = refl
  rises_far (y ∷ ys) h =
      let one = none_at y ys (λ j k. h zero (suc j) y zero-le (suc-le-suc k)) in
      let ih = rises_far ys (λ i j d le k. h (suc i) (suc j) d (suc-le-suc le) (suc-le-suc k)) in
      grind (arith, nat_tests)

  -- what is less than all of a rising list ties with none of it
  none_tie : (y z : X) (zs : List X) → lt y z ≡ true → none_less z zs ≡ true → filter (ties lt y) zs ≡ []
  none_tie y z [] h k = refl
  none_tie y z (w ∷ zs) h k =
      let parts : (lt w z ≡ false) × (none_less z zs ≡ true) = grind (arith, nat_tests) in
      let c = o.chain y w z in
      let miss : ties lt y w ≡ false = elim (cases_Bool (ties lt y w)) [
        | inr miss ↦ miss
        | inl hit ↦ let e : lt y w ≡ false = grind (arith, nat_tests) in let f = c e parts.0 in cc
      ] in
      dropped (ties lt y) w zs miss ∙ none_tie y z zs h parts.1

  first_less : (y z : X) (ys zs : List X) → rises (z ∷ zs) ≡ true → filter (ties lt y) (y ∷ ys) ≡ filter (ties lt y) (z ∷ zs) → lt y z ≡ false
  first_less y z ys zs up same = elim (cases_Bool (lt y z)) [
    | inr miss ↦ miss
    | inl hit ↦
        let parts : (none_less z zs ≡ true) × (rises zs ≡ true) = grind (arith, nat_tests) in
        let miss : ties lt y z ≡ false = grind (arith, nat_tests) in
        let clash = sym (kept (ties lt y) y ys (ties_itself y)) ∙ same ∙ dropped (ties lt y) z zs miss ∙ none_tie y z zs hit parts.0 in
        cc
  ]

  same_from_ties : (ys zs : List X) → rises ys ≡ true → rises zs ≡ true → ((x : X) → filter (ties lt x) ys ≡ filter (ties lt x) zs) → ys ≡ zs
  same_from_ties [] [] left right same = refl
  same_from_ties [] (z ∷ zs) left right same = let clash = same z ∙ kept (ties lt z) z zs (ties_itself z) in cc
  same_from_ties (y ∷ ys) [] left right same = let clash = sym (same y) ∙ kept (ties lt y) y ys (ties_itself y) in cc
  same_from_ties (y ∷ ys) (z ∷ zs) left right same =
      let a = first_less y z ys zs right (same y) in
      let b = first_less z y zs ys left (sym (same z)) in
      let tied : ties lt y z ≡ true = grind (arith, nat_tests) in
      let at_y = kept (ties lt y) y ys (ties_itself y) in
      let heads = sym at_y ∙ same y ∙ kept (ties lt y) z zs tied in
      let head : y ≡ z = cc in
      let tails : (x : X) → filter (ties lt x) ys ≡ filter (ties lt x) zs =
      λ x. elim (cases_Bool (ties lt x y)) [
        | inl with ↦ let both = sym (kept (ties lt x) y ys with) ∙ same x ∙ kept (ties lt x) z zs (ap (ties lt x) (sym head) ∙ with) in cc
        | inr without ↦ sym (dropped (ties lt x) y ys without) ∙ same x ∙ dropped (ties lt x) z zs (ap (ties lt x) (sym head) ∙ without)
      ] in
      let one : rises ys ≡ true = grind (arith, nat_tests) in
      let two : rises zs ≡ true = grind (arith, nat_tests) in
      ap (λ w. w ∷ ys) head ∙ ap (λ l. z ∷ l) (same_from_ties ys zs one two tails)

  -- what a stable sort leaves
  pub stable_sort : (xs ys : List X) → IsSortedBy lt ys → IsStableBy lt xs ys → ys ≡ in_order lt xs
  stable_sort xs ys sorted stable =
      same_from_ties ys (in_order lt xs) (rises_far ys (sorted_far lt o ys sorted)) (rises_sorted xs)
      (λ x. stable x ∙ sym (filter_sorted x xs))
