-- The ancestors of a new tag, and those of the older tags beside it.
use Rattle.std.proofs.Common.{◌≡◌, ℕ, ◌+◌, ◌<◌, ◌≤◌, List, [], ◌∷◌, ◌++◌, length, refl, sym, ap, ◌∙◌, arith, ◌||◌, ltb, eqb, get_or, take, subst, inl, inr}
use Rattle.std.specs.List.{list_any}
use Rattle.std.proofs.lemmas.Bool.{ltb-true, cases_order}
use Rattle.std.proofs.lemmas.Bool.Decides.{nat_tests}
use Rattle.std.proofs.lemmas.List.{get_or_append_left, get_or_past, map-append, length-map}
use Rattle.std.proofs.lemmas.List.Folds.{list_any_more}
use Rattle.std.proofs.Math.Seq.{get_or-append_seam}
use Rattle.std.proofs.Common.{length-append}
use Rattle.ifdb_label.specs.Tags.{MadeTag, lone_tag, parents_of, below, AreMade, AreWellFormed}
use Rattle.ifdb_label.specs.Label.{with_tag, with_tags}
use Rattle.ifdb_label.specs.Ancestors.{TracedTag, lone_traced, made_of, ancestors_of, has, HasAbove, HasAncestors, AreTraced}
use Rattle.ifdb_value.proofs.Lists.{any_same_on}
use Rattle.ifdb_label.proofs.TagLaws.{below_unfolds, below_unmade, below-append, parents_of-append}

has-with_tag : (t : ℕ) (list : List ℕ) (u : ℕ) → has (with_tag t list) u ≡ eqb t u || has list u
has-with_tag t [] u = refl
has-with_tag t (v ∷ vs) u = grind (arith, nat_tests, has-with_tag t vs u)

has-with_tags : (from list : List ℕ) (u : ℕ) → has (with_tags from list) u ≡ has from u || has list u
has-with_tags [] list u = refl
has-with_tags (t ∷ ts) list u = grind (arith, nat_tests, has-with_tags ts list u, has-with_tag t (with_tags ts list) u)

-- one more parent, with its ancestors
pub above_more : (tags : List MadeTag) (parents : List ℕ) (i p : ℕ) (list ancestors : List ℕ) → i < length parents → p ≡ get_or parents i p
    → HasAbove tags (take i parents) list → HasAncestors tags p ancestors → HasAbove tags (take (i + 1) parents) (with_tags ancestors (with_tag p list))
above_more tags parents i p list ancestors h e before above u =
    let more = list_any_more (λ q. below tags q u) parents i p h in
    let at : below tags (get_or parents i p) u ≡ below tags p u = ap (λ q. below tags q u) (sym e) in
    let one = before u in
    let two = above u in
    grind (arith, nat_tests, more, at, one, two, has-with_tags ancestors (with_tag p list) u, has-with_tag p list u)

-- the parents of the new tag, and those of a tag that isn't made yet
parents_of-new : (tags : List MadeTag) (m : MadeTag) → parents_of (tags ++ m ∷ []) (length tags) ≡ m.parents
parents_of-new tags m = ap (λ (made : MadeTag). made.parents) (get_or-append_seam tags m [] lone_tag)

parents_of-past : (tags : List MadeTag) (t : ℕ) → length tags ≤ t → parents_of tags t ≡ []
parents_of-past tags t h = ap (λ (made : MadeTag). made.parents) (get_or_past tags t lone_tag h)

-- a tag with made parents may be made
pub well_formed-append : (tags : List MadeTag) (m : MadeTag) → AreWellFormed tags → AreMade (length tags) m.parents → AreWellFormed (tags ++ m ∷ [])
well_formed-append tags m w made = record { older = older } where
  older : (t : ℕ) → AreMade t (parents_of (tags ++ m ∷ []) t)
  older t =
      let P : List ℕ → Type 0 = λ ps. AreMade t ps in
      elim (cases_order t (length tags)) [
        | inl e ↦ let Q : ℕ → Type 0 = λ n. AreMade n (parents_of (tags ++ m ∷ []) n) in
            let R : List ℕ → Type 0 = λ ps. AreMade (length tags) ps in
            subst Q (sym e) (subst R (sym (parents_of-new tags m)) made)
        | inr (inl lt) ↦ subst P (sym (parents_of-append tags (m ∷ []) t lt)) (w.older t)
        | inr (inr gt) ↦ subst P (sym (parents_of-past (tags ++ m ∷ []) t (omega (arith, length-append tags (m ∷ []))))) refl
      ]

-- what the new tag is below
below-new : (tags : List MadeTag) (m : MadeTag) (ancestors : List ℕ) → AreWellFormed tags → AreMade (length tags) m.parents → HasAbove tags m.parents ancestors
    → HasAncestors (tags ++ m ∷ []) (length tags) ancestors
below-new tags m ancestors w made above u =
    let n = length tags in
    let whole = below_unfolds (tags ++ m ∷ []) (well_formed-append tags m w made) n u in
    let parents : list_any (λ p. below (tags ++ m ∷ []) p u) (parents_of (tags ++ m ∷ []) n) ≡ list_any (λ p. below (tags ++ m ∷ []) p u) m.parents =
    ap (λ ps. list_any (λ p. below (tags ++ m ∷ []) p u) ps) (parents_of-new tags m) in
    let same = any_same_on (λ p. ltb p n) (λ p. below (tags ++ m ∷ []) p u) (λ p. below tags p u) m.parents made
    (λ p e. below-append tags (m ∷ []) w p u (ltb-true p n e)) in
    let list = above u in
    ap (λ b. eqb n u || b) (list ∙ sym same ∙ sym parents) ∙ sym whole

-- the tags with a new one
pub traced-append : (traced : List TracedTag) (new : TracedTag) → AreTraced traced → AreMade (length (made_of traced)) new.made.parents
    → HasAbove (made_of traced) new.made.parents new.ancestors → AreTraced (traced ++ new ∷ [])
traced-append traced new before made above =
    let P : List MadeTag → Type 0 = λ tags. AreWellFormed tags in
    record { well_formed = subst P (sym split) (well_formed-append (made_of traced) new.made before.well_formed made); ancestors = at } where
      split : made_of (traced ++ new ∷ []) ≡ made_of traced ++ new.made ∷ []
      split = map-append (λ (t : TracedTag). t.made) traced (new ∷ [])

      count : length (made_of traced) ≡ length traced
      count = length-map traced (λ (t : TracedTag). t.made)

      whole : (t : ℕ) → HasAncestors (made_of traced ++ new.made ∷ []) t (ancestors_of (traced ++ new ∷ []) t)
      whole t u =
          let P : List ℕ → Type 0 = λ list. ((eqb t u) || has list u) ≡ below (made_of traced ++ new.made ∷ []) t u in
          elim (cases_order t (length traced)) [
            | inl e ↦ let last : ancestors_of (traced ++ new ∷ []) t ≡ new.ancestors = ap (λ n. ancestors_of (traced ++ new ∷ []) n) e ∙ ap (λ (x : TracedTag). x.ancestors) (get_or-append_seam traced new [] lone_traced) in
                let Q : ℕ → Type 0 = λ n. ((eqb n u) || has new.ancestors u) ≡ below (made_of traced ++ new.made ∷ []) n u in
                subst P (sym last) (subst Q (count ∙ sym e) (below-new (made_of traced) new.made new.ancestors before.well_formed made above u))
            | inr (inl lt) ↦ let older : ancestors_of (traced ++ new ∷ []) t ≡ ancestors_of traced t = ap (λ (x : TracedTag). x.ancestors) (get_or_append_left traced (new ∷ []) lone_traced t lt) in
                subst P (sym older) (before.ancestors t u ∙ sym (below-append (made_of traced) (new.made ∷ []) before.well_formed t u (omega (arith, count))))
            | inr (inr gt) ↦ let none : ancestors_of (traced ++ new ∷ []) t ≡ [] = ap (λ (x : TracedTag). x.ancestors) (get_or_past (traced ++ new ∷ []) t lone_traced (omega (arith, length-append traced (new ∷ [])))) in
                subst P (sym none) (grind (arith, nat_tests) ∙ sym (below_unmade (made_of traced ++ new.made ∷ []) t u (omega (arith, count, length-append (made_of traced) (new.made ∷ [])))))
          ]

      at : (t : ℕ) → HasAncestors (made_of (traced ++ new ∷ [])) t (ancestors_of (traced ++ new ∷ []) t)
      at t = let P : List MadeTag → Type 0 = λ tags. HasAncestors tags t (ancestors_of (traced ++ new ∷ []) t) in subst P (sym split) (whole t)
