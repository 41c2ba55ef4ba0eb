-- Chains of authority: with more grants they stay, and the shortest use each grant once.
use Rattle.std.proofs.Common.{◌≡◌, ℕ, zero, suc, ◌+◌, ◌<◌, ◌≤◌, Bool, true, false, List, [], ◌∷◌, length, refl, sym, ap, ◌∙◌, arith, ◌||◌, ◌&&◌, eqb, ltb}
use Rattle.std.specs.Prelude.{filter, not}
use Rattle.std.specs.List.{list_any, list_all}
use Rattle.std.proofs.lemmas.Bool.{ltb-true}
use Rattle.std.proofs.lemmas.Bool.Decides.{nat_tests}
use Rattle.ifdb_label.specs.Tags.{MadeTag, parents_of, AreWellFormed}
use Rattle.ifdb_authority.specs.declared.grant.Grant.{Grant}
use Rattle.ifdb_authority.specs.Authority.{Delegation, is_owner, is_same_grant, stands, holds_in, Holds, steps_of, holds, without, revoked}
use Rattle.ifdb_authority.specs.Laws.{IsWider}
use Rattle.ifdb_authority.proofs.Grants.{same_grant_refl, same_grant_is, stands-revoked, fewer-without}

-- an element passes, and it is in the list
pub some_grant : (f : Grant → Bool) (r : Bool) (grants : List Grant) → ((g : Grant) → f g ≡ true → list_any (is_same_grant g) grants ≡ true → r ≡ true)
    → list_any f grants ≡ true → r ≡ true
some_grant f r [] h a = grind (arith, nat_tests)
some_grant f r (g ∷ grants) h a = grind (arith, nat_tests, h g, same_grant_refl g, some_grant f r grants (λ x i j. h x i (grind (arith, nat_tests))))

-- a grant that is in the list and passes
pub any_there : (f : Grant → Bool) (g : Grant) (grants : List Grant) → list_any (is_same_grant g) grants ≡ true → f g ≡ true → list_any f grants ≡ true
any_there f g [] h e = grind (arith, nat_tests)
any_there f g (x ∷ grants) h e =
    let same : is_same_grant g x ≡ true → f x ≡ true = λ i. ap f (sym (same_grant_is g x i)) ∙ e in
    grind (arith, nat_tests, any_there f g grants, same)

pub any_wider : (f h : ℕ → Bool) (list : List ℕ) → ((u : ℕ) → f u ≡ true → h u ≡ true) → list_any f list ≡ true → list_any h list ≡ true
any_wider f h [] w a = a
any_wider f h (u ∷ list) w a = grind (arith, nat_tests, any_wider f h list w, w u)

-- a wider test, of what passes a third, which all do
pub any_wider_on : (q f h : ℕ → Bool) (list : List ℕ) → list_all q list ≡ true → ((u : ℕ) → q u ≡ true → f u ≡ true → h u ≡ true) → list_any f list ≡ true → list_any h list ≡ true
any_wider_on q f h [] b w a = a
any_wider_on q f h (u ∷ list) b w a = grind (arith, nat_tests, any_wider_on q f h list, w u)

-- more grants
pub holds_in-wider : (tags : List MadeTag) (a b : Delegation) → IsWider a b → (k p t : ℕ) → holds_in tags a k p t ≡ true → holds_in tags b k p t ≡ true
holds_in-wider tags a b w zero p t h = ap (λ o. Rattle.ifdb_authority.specs.Authority.is_some_of (Rattle.std.specs.Prelude.slice_get o t) p) w.same_owners ∙ h
holds_in-wider tags a b w (suc k) p t h =
    let owner : is_owner b p t ≡ is_owner a p t = ap (λ o. Rattle.ifdb_authority.specs.Authority.is_some_of (Rattle.std.specs.Prelude.slice_get o t) p) w.same_owners in
    let more = holds_in-wider tags a b w k in
    let grants = some_grant (λ (g : Grant). (eqb g.tag t && eqb g.to p) && holds_in tags a k g.from t) (list_any (λ (g : Grant). (eqb g.tag t && eqb g.to p) && holds_in tags b k g.from t) b.grants) a.grants
    (λ g i j. any_there (λ (x : Grant). (eqb x.tag t && eqb x.to p) && holds_in tags b k x.from t) g b.grants (w.more_grants g j) (grind (arith, nat_tests, more g.from t))) in
    let parents = any_wider (λ u. holds_in tags a k p u) (λ u. holds_in tags b k p u) (parents_of tags t) (λ u. more p u) in
    grind (arith, nat_tests, owner, grants, parents)

pub holds-wider : (tags : List MadeTag) (a b : Delegation) (p t : ℕ) → IsWider a b → Holds tags a p t → Holds tags b p t
holds-wider tags a b p t w (k, h) = (k, holds_in-wider tags a b w k p t h)

-- one step more
owner_holds : (tags : List MadeTag) (a : Delegation) (k p t : ℕ) → is_owner a p t ≡ true → holds_in tags a k p t ≡ true
owner_holds tags a zero p t h = h
owner_holds tags a (suc k) p t h = grind (arith, nat_tests)

holds_in-more : (tags : List MadeTag) (a : Delegation) (k p t : ℕ) → holds_in tags a k p t ≡ true → holds_in tags a (suc k) p t ≡ true
holds_in-more tags a zero p t h = grind (arith, nat_tests)
holds_in-more tags a (suc k) p t h =
    let more = holds_in-more tags a k in
    let grants = some_grant (λ (g : Grant). (eqb g.tag t && eqb g.to p) && holds_in tags a k g.from t) (list_any (λ (g : Grant). (eqb g.tag t && eqb g.to p) && holds_in tags a (suc k) g.from t) a.grants) a.grants
    (λ g i j. any_there (λ (x : Grant). (eqb x.tag t && eqb x.to p) && holds_in tags a (suc k) x.from t) g a.grants j (grind (arith, nat_tests, more g.from t))) in
    let parents = any_wider (λ u. holds_in tags a k p u) (λ u. holds_in tags a (suc k) p u) (parents_of tags t) (λ u. more p u) in
    grind (arith, nat_tests, grants, parents)

-- the grantor of a grant holds its tag by a shorter chain
abbrev holds_before : List MadeTag → Delegation → Grant → ℕ → Bool
holds_before tags a g zero = false
holds_before tags a g (suc k) = holds_in tags a k g.from g.tag

before_more : (tags : List MadeTag) (a : Delegation) (g : Grant) (k : ℕ) → holds_before tags a g k ≡ true → holds_in tags a k g.from g.tag ≡ true
before_more tags a g zero h = grind (arith, nat_tests)
before_more tags a g (suc k) h = holds_in-more tags a k g.from g.tag h

-- a chain that uses the grant, by which its grantor holds the tag
through_it : (tags : List MadeTag) (a : Delegation) (g x : Grant) (k t : ℕ) → is_same_grant x g ≡ true → eqb x.tag t ≡ true → holds_in tags a k x.from t ≡ true → holds_in tags a k g.from g.tag ≡ true
through_it tags a g x k t i e h =
    let from : x.from ≡ g.from = grind (arith, nat_tests) in
    let tag : t ≡ g.tag = grind (arith, nat_tests) in
    ap (λ y. holds_in tags a k y g.tag) (sym from) ∙ ap (λ y. holds_in tags a k x.from y) (sym tag) ∙ h

any_or : (f : ℕ → Bool) (b : Bool) (list : List ℕ) → list_any (λ u. f u || b) list ≡ true → list_any f list || b ≡ true
any_or f b [] h = grind (arith, nat_tests)
any_or f b (u ∷ list) h = grind (arith, nat_tests, any_or f b list)

-- a chain goes on without a grant, or its end is a chain of the grantor
abbrev Splits : List MadeTag → Delegation → Grant → ℕ → Type 0
Splits tags a g k = (p t : ℕ) → holds_in tags a k p t ≡ true → holds_in tags (revoked a g) k p t || holds_before tags a g k ≡ true

-- a test of a grant, at one step of a chain
abbrev leads : List MadeTag → Delegation → ℕ → ℕ → ℕ → Grant → Bool
leads tags a k p t g = (eqb g.tag t && eqb g.to p) && holds_in tags a k g.from t

splits_at : (tags : List MadeTag) (a : Delegation) (g : Grant) (k : ℕ) → Splits tags a g k → (p t : ℕ) (x : Grant) → leads tags a k p t x ≡ true → list_any (is_same_grant x) a.grants ≡ true
    → list_any (leads tags (revoked a g) k p t) (without g a.grants) || holds_in tags a k g.from g.tag ≡ true
splits_at tags a g k ih p t x i j = by (is_same_grant x g) refl where
  kept : is_same_grant x g ≡ false → leads tags (revoked a g) k p t x ≡ true → list_any (leads tags (revoked a g) k p t) (without g a.grants) ≡ true
  kept e l = any_there (leads tags (revoked a g) k p t) x (without g a.grants) (grind (arith, nat_tests, stands-revoked a g x)) l

  by : (b : Bool) → is_same_grant x g ≡ b → list_any (leads tags (revoked a g) k p t) (without g a.grants) || holds_in tags a k g.from g.tag ≡ true
  by true e = grind (arith, nat_tests, through_it tags a g x k t e)
  by false e = grind (arith, nat_tests, kept e, ih x.from t, before_more tags a g k)

splits_grants : (tags : List MadeTag) (a : Delegation) (g : Grant) (k : ℕ) → Splits tags a g k → (p t : ℕ) → list_any (leads tags a k p t) a.grants ≡ true
    → list_any (leads tags (revoked a g) k p t) (without g a.grants) || holds_in tags a k g.from g.tag ≡ true
splits_grants tags a g k ih p t = some_grant (leads tags a k p t) (list_any (leads tags (revoked a g) k p t) (without g a.grants) || holds_in tags a k g.from g.tag) a.grants (splits_at tags a g k ih p t)

splits_parents : (tags : List MadeTag) (a : Delegation) (g : Grant) (k : ℕ) → Splits tags a g k → (p : ℕ) (list : List ℕ) → list_any (λ u. holds_in tags a k p u) list ≡ true
    → list_any (λ u. holds_in tags (revoked a g) k p u) list || holds_in tags a k g.from g.tag ≡ true
splits_parents tags a g k ih p list h =
    any_or (λ u. holds_in tags (revoked a g) k p u) (holds_in tags a k g.from g.tag) list
    (any_wider (λ u. holds_in tags a k p u) (λ u. holds_in tags (revoked a g) k p u || holds_in tags a k g.from g.tag) list (λ u i. grind (arith, nat_tests, ih p u i, before_more tags a g k)) h)

splits : (tags : List MadeTag) (a : Delegation) (g : Grant) (k : ℕ) → Splits tags a g k
splits tags a g zero p t h = grind (arith, nat_tests)
splits tags a g (suc k) p t h = grind (arith, nat_tests, splits_grants tags a g k (splits tags a g k) p t, splits_parents tags a g k (splits tags a g k) p (parents_of tags t))

-- the grantor of a grant needs it in no chain of its own
without_or : (tags : List MadeTag) (a : Delegation) (g : Grant) (k : ℕ) (b : Bool) → holds_in tags (revoked a g) k g.from g.tag ≡ b → (b ≡ false → Holds tags (revoked a g) g.from g.tag) → Holds tags (revoked a g) g.from g.tag
without_or tags a g k true e f = (k, e)
without_or tags a g k false e f = f refl

grantor_without : (tags : List MadeTag) (a : Delegation) (g : Grant) (k : ℕ) → holds_in tags a k g.from g.tag ≡ true → Holds tags (revoked a g) g.from g.tag
grantor_without tags a g zero h = (zero, h)
grantor_without tags a g (suc k) h =
    let either = splits tags a g (suc k) g.from g.tag h in
    without_or tags a g (suc k) (holds_in tags (revoked a g) (suc k) g.from g.tag) refl (λ e. grantor_without tags a g k (grind (arith, nat_tests)))

revoked_wider : (a : Delegation) (g : Grant) → IsWider (revoked a g) a
revoked_wider a g = record { same_owners = refl; more_grants = λ h e. grind (arith, nat_tests, stands-revoked a g h) }

-- m steps serve where each grant and each number down from the tag is used once
abbrev Suffices : List MadeTag → ℕ → Type 0
Suffices tags m = (n : ℕ) (a : Delegation) (k p t : ℕ) → length a.grants ≤ n → n + t ≤ m → holds_in tags a k p t ≡ true → holds_in tags a m p t ≡ true

short_grant : (tags : List MadeTag) (m : ℕ) → Suffices tags m → (n : ℕ) (a : Delegation) (k p t : ℕ) → length a.grants ≤ n → n + t ≤ suc m → (g : Grant) → leads tags a k p t g ≡ true
    → list_any (is_same_grant g) a.grants ≡ true → list_any (leads tags a m p t) a.grants ≡ true
short_grant tags m ih zero a k p t le bound g i j = let fewer = fewer-without g a.grants j in absurd (omega arith)
short_grant tags m ih (suc n) a k p t le bound g i j =
    let fewer = fewer-without g a.grants j in
    let tag : t ≡ g.tag = grind (arith, nat_tests) in
    let held : holds_in tags a k g.from g.tag ≡ true = ap (λ y. holds_in tags a k g.from y) (sym tag) ∙ grind (arith, nat_tests) in
    let less = grantor_without tags a g k held in
    let short = ih n (revoked a g) less.0 g.from g.tag (omega arith) (omega arith) less.1 in
    let wide : holds_in tags a m g.from t ≡ true = ap (λ y. holds_in tags a m g.from y) tag ∙ holds_in-wider tags (revoked a g) a (revoked_wider a g) m g.from g.tag short in
    any_there (leads tags a m p t) g a.grants j (grind (arith, nat_tests))

none_led : (tags : List MadeTag) (a : Delegation) (k p t : ℕ) → length a.grants ≤ 0 → list_any (leads tags a k p t) a.grants ≡ false
none_led tags a k p t le = none a.grants le where
  none : (grants : List Grant) → length grants ≤ 0 → list_any (leads tags a k p t) grants ≡ false
  none [] h = refl
  none (g ∷ grants) h = absurd (omega arith)

any_never : (list : List ℕ) → list_any (λ u. false) list ≡ false
any_never [] = refl
any_never (u ∷ list) = any_never list

no_parents : (tags : List MadeTag) → AreWellFormed tags → (f : ℕ → Bool) (t : ℕ) → t ≤ 0 → list_any f (parents_of tags t) ≡ true → list_any (λ u. false) (parents_of tags t) ≡ true
no_parents tags w f t le = any_wider_on (λ u. ltb u t) f (λ u. false) (parents_of tags t) (w.older t) (λ u j e. let lt = ltb-true u t j in absurd (omega arith))

suffices : (tags : List MadeTag) → AreWellFormed tags → (m : ℕ) → Suffices tags m
suffices tags w m n a zero p t le bound h = owner_holds tags a m p t h
suffices tags w zero n a (suc k) p t le bound h =
    grind (arith, nat_tests, none_led tags a k p t (omega arith), no_parents tags w (λ u. holds_in tags a k p u) t (omega arith), any_never (parents_of tags t))
suffices tags w (suc m) n a (suc k) p t le bound h =
    let ih = suffices tags w m in
    let grants = some_grant (leads tags a k p t) (list_any (leads tags a m p t) a.grants) a.grants (short_grant tags m ih n a k p t le bound) in
    let parents = any_wider_on (λ u. ltb u t) (λ u. holds_in tags a k p u) (λ u. holds_in tags a m p u) (parents_of tags t) (w.older t)
    (λ u j e. let lt = ltb-true u t j in ih n a k p u le (omega arith) e) in
    grind (arith, nat_tests, grants, parents)

pub steps_suffice_lem : (tags : List MadeTag) (a : Delegation) (p t : ℕ) → AreWellFormed tags → t < length tags → Holds tags a p t → holds tags a p t ≡ true
steps_suffice_lem tags a p t w lt (k, h) = suffices tags w (steps_of tags a) (length a.grants) a k p t (omega arith) (omega arith) h
