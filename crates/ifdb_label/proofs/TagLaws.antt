-- Laws of tags: below is an order on any list of tags whose parents are older, and new tags change nothing of it.
use Rattle.std.proofs.Common.{◌≡◌, ℕ, ◌<◌, ◌≤◌, zero, suc, Bool, true, false, List, [], ◌++◌, length, refl, ap, ◌∙◌, arith, ◌&&◌, ◌||◌, ltb, eqb, inl, inr}
use Rattle.std.specs.List.{list_any}
use Rattle.std.proofs.lemmas.Bool.{eq-eqb, ltb-true, cases_lt}
use Rattle.std.proofs.lemmas.Bool.Decides.{nat_tests}
use Rattle.std.proofs.lemmas.List.{get_or_append_left, get_or_past}
use Rattle.ifdb_label.specs.Tags.{MadeTag, lone_tag, parents_of, below_in, below, AreWellFormed}
use Rattle.ifdb_value.proofs.Lists.{any_same_on, any_none, any_wider}

no_parents : (tags : List MadeTag) → AreWellFormed tags → (f : ℕ → Bool) (t : ℕ) → t ≤ 0 → list_any f (parents_of tags t) ≡ false
no_parents tags w f t le = any_none (λ p. ltb p t) f (parents_of tags t) (w.older t) (λ p h. grind (arith, nat_tests))

-- more turns than t find nothing new
enough_turns : (tags : List MadeTag) → AreWellFormed tags → (n m t u : ℕ) → t ≤ n → t ≤ m → below_in tags n t u ≡ below_in tags m t u
enough_turns tags w zero zero t u h k = refl
enough_turns tags w zero (suc m) t u h k = grind (arith, nat_tests, no_parents tags w (λ p. below_in tags m p u) t h)
enough_turns tags w (suc n) zero t u h k = grind (arith, nat_tests, no_parents tags w (λ p. below_in tags n p u) t k)
enough_turns tags w (suc n) (suc m) t u h k =
    ap (λ b. eqb t u || b) (any_same_on (λ p. ltb p t) (λ p. below_in tags n p u) (λ p. below_in tags m p u) (parents_of tags t) (w.older t)
    (λ p e. let lt = ltb-true p t e in enough_turns tags w n m p u (omega arith) (omega arith)))

-- t is below u where t is u or some parent of t is below u
pub below_unfolds : (tags : List MadeTag) → AreWellFormed tags → (t u : ℕ) → below tags t u ≡ eqb t u || list_any (λ p. below tags p u) (parents_of tags t)
below_unfolds tags w zero u = grind (arith, nat_tests, no_parents tags w (λ p. below tags p u) 0)
below_unfolds tags w (suc n) u =
    ap (λ b. eqb (suc n) u || b) (any_same_on (λ p. ltb p (suc n)) (λ p. below_in tags n p u) (λ p. below tags p u) (parents_of tags (suc n)) (w.older (suc n))
    (λ p e. let lt = ltb-true p (suc n) e in enough_turns tags w n p p u (omega arith) (omega arith)))

below_itself_in : (tags : List MadeTag) (n t : ℕ) → below_in tags n t t ≡ true
below_itself_in tags zero t = eq-eqb t t refl
below_itself_in tags (suc n) t = ap (λ b. b || list_any (λ p. below_in tags n p t) (parents_of tags t)) (eq-eqb t t refl)

pub below_refl : (tags : List MadeTag) (t : ℕ) → below tags t t ≡ true
below_refl tags t = below_itself_in tags t t

below_trans_step : (tags : List MadeTag) → AreWellFormed tags → (t u v : ℕ) → below tags u v ≡ true → below tags t u ≡ true
    → ((p : ℕ) → p < t → below tags p u ≡ true → below tags p v ≡ true) → below tags t v ≡ true
below_trans_step tags w t u v h k ih =
    let one = below_unfolds tags w t u in
    let two = below_unfolds tags w t v in
    let more : list_any (λ p. ltb p t && below tags p u) (parents_of tags t) ≡ true → list_any (λ p. below tags p v) (parents_of tags t) ≡ true =
    any_wider (λ p. ltb p t && below tags p u) (λ p. below tags p v) (parents_of tags t) (λ p e. grind (arith, nat_tests, ih p)) in
    let same = any_same_on (λ p. ltb p t) (λ p. below tags p u) (λ p. ltb p t && below tags p u) (parents_of tags t) (w.older t) (λ p e. grind (arith, nat_tests)) in
    grind (arith, nat_tests, one, two, more, same)

below_trans_in : (tags : List MadeTag) → AreWellFormed tags → (n t u v : ℕ) → t ≤ n → below tags t u ≡ true → below tags u v ≡ true → below tags t v ≡ true
below_trans_in tags w zero t u v le h k = below_trans_step tags w t u v k h (λ p lt e. absurd (omega arith))
below_trans_in tags w (suc n) t u v le h k = below_trans_step tags w t u v k h (λ p lt e. below_trans_in tags w n p u v (omega arith) e k)

pub below_trans : (tags : List MadeTag) → AreWellFormed tags → (t u v : ℕ) → below tags t u ≡ true → below tags u v ≡ true → below tags t v ≡ true
below_trans tags w t u v h k = let le : t ≤ t = omega arith in below_trans_in tags w t t u v le h k

below_unmade_in : (tags : List MadeTag) (n t u : ℕ) → length tags ≤ t → below_in tags n t u ≡ eqb t u
below_unmade_in tags zero t u h = refl
below_unmade_in tags (suc n) t u h =
    let e : parents_of tags t ≡ [] = ap (λ (made : MadeTag). made.parents) (get_or_past tags t lone_tag h) in
    ap (λ ps. eqb t u || list_any (λ p. below_in tags n p u) ps) e ∙ grind (arith, nat_tests)

-- a tag that isn't made is below itself alone
pub below_unmade : (tags : List MadeTag) (t u : ℕ) → length tags ≤ t → below tags t u ≡ eqb t u
below_unmade tags t u h = below_unmade_in tags t t u h

pub parents_of-append : (tags more : List MadeTag) (t : ℕ) → t < length tags → parents_of (tags ++ more) t ≡ parents_of tags t
parents_of-append tags more t h = ap (λ (made : MadeTag). made.parents) (get_or_append_left tags more lone_tag t h)

below_in-append : (tags more : List MadeTag) → AreWellFormed tags → (n t u : ℕ) → t < length tags → below_in (tags ++ more) n t u ≡ below_in tags n t u
below_in-append tags more w zero t u h = refl
below_in-append tags more w (suc n) t u h =
    ap (λ ps. eqb t u || list_any (λ p. below_in (tags ++ more) n p u) ps) (parents_of-append tags more t h)
    ∙ ap (λ b. eqb t u || b) (any_same_on (λ p. ltb p t) (λ p. below_in (tags ++ more) n p u) (λ p. below_in tags n p u) (parents_of tags t) (w.older t)
    (λ p e. let lt = ltb-true p t e in below_in-append tags more w n p u (omega arith)))

-- tags made later change nothing of what a made tag is below, be the other tag made or not
pub below-append : (tags more : List MadeTag) → AreWellFormed tags → (t u : ℕ) → t < length tags → below (tags ++ more) t u ≡ below tags t u
below-append tags more w t u h = below_in-append tags more w t t u h

-- what is below another stays below it
pub below_stays : (tags more : List MadeTag) → AreWellFormed tags → (t u : ℕ) → below tags t u ≡ true → below (tags ++ more) t u ≡ true
below_stays tags more w t u h = elim (cases_lt t (length tags)) [ inl lt ↦ below-append tags more w t u lt ∙ h | inr le ↦ grind (arith, nat_tests, below_unmade tags t u le, below_refl (tags ++ more) t) ]

below_le_step : (tags : List MadeTag) → AreWellFormed tags → (t u : ℕ) → ((p : ℕ) → p < t → below tags p u ≡ true → u ≤ p) → below tags t u ≡ true → u ≤ t
below_le_step tags w t u ih h =
    let whole = below_unfolds tags w t u in
    let none : ltb t u ≡ true → list_any (λ p. below tags p u) (parents_of tags t) ≡ false = λ e. any_none (λ p. ltb p t) (λ p. below tags p u) (parents_of tags t) (w.older t) (λ p lt. grind (arith, nat_tests, ih p)) in
    grind (arith, nat_tests, whole, none)

below_le_in : (tags : List MadeTag) → AreWellFormed tags → (n t u : ℕ) → t ≤ n → below tags t u ≡ true → u ≤ t
below_le_in tags w zero t u le h = below_le_step tags w t u (λ p lt e. absurd (omega arith)) h
below_le_in tags w (suc n) t u le h = below_le_step tags w t u (λ p lt e. below_le_in tags w n p u (omega arith) e) h

-- a tag is no younger than what is below it
pub below_le : (tags : List MadeTag) → AreWellFormed tags → (t u : ℕ) → below tags t u ≡ true → u ≤ t
below_le tags w t u h = let le : t ≤ t = omega arith in below_le_in tags w t t u le h
