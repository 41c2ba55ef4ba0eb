-- What a search knows on its way, and where it ends.
use Rattle.std.proofs.Common.{◌≡◌, ℕ, Bool, true, false, List, [], ◌∷◌, ◌++◌, refl, sym, ap, ◌∙◌, subst, arith, ◌||◌, ◌&&◌, eqb, ltb, zero, suc, ◌+◌, ◌<◌, ◌≤◌, length, get_or, take, true≢false}
use Rattle.std.specs.List.{list_any, list_all}
use Rattle.std.proofs.lemmas.Bool.{eqb-true, ltb-true}
use Rattle.std.proofs.lemmas.Bool.Decides.{nat_tests}
use Rattle.std.proofs.lemmas.List.{take_more, take_all, take-take}
use Rattle.ifdb_label.specs.Tags.{MadeTag, below, parents_of, AreMade, AreWellFormed}
use Rattle.ifdb_label.specs.Ancestors.{has}
use Rattle.ifdb_label.proofs.TagLaws.{below_refl, below_trans, below_le}
use Rattle.ifdb_authority.specs.declared.grant.Grant.{Grant}
use Rattle.ifdb_authority.specs.declared.holding.Holding.{Holding}
use Rattle.ifdb_authority.specs.Authority.{Delegation, is_owner, is_same_grant, stands, holds_in, Holds, holds, steps_of, grant}
use Rattle.ifdb_authority.specs.Grantors.{holding, is_same_holding}
use Rattle.ifdb_authority.specs.Search.{is_found, is_grantor, leads, IsExtended, AreAbove, HasAbove}
use Rattle.ifdb_authority.proofs.Chains.{some_grant}
use Rattle.ifdb_authority.proofs.SearchLemmas.{found-push, same_holding_is, extended_length}
use Rattle.ifdb_authority.proofs.HoldsLemmas.{holds-by_grant, holds_below, parent_above, some_of, both}

-- the principal didn't make the tag, and all that lead to the holding are found
pub record IsAsked (tags : List MadeTag) (a : Delegation) (above : List ℕ) (found : List Holding) (h : Holding) : Type 0 where
  pub not_owner : is_owner a h.holder h.tag ≡ false
  pub steps : (g : Holding) → leads tags a above h g ≡ true → is_found found g ≡ true

-- the search for p and t found these, and asked so many of them
pub record IsSearched (tags : List MadeTag) (a : Delegation) (above : List ℕ) (p t : ℕ) (found : List Holding) (n : ℕ) : Type 0 where
  pub start : is_found found (holding p t) ≡ true
  pub within : (h : Holding) → is_found found h ≡ true → below tags t h.tag ≡ true
  pub backs : (h : Holding) → is_found found h ≡ true → Holds tags a h.holder h.tag → Holds tags a p t
  pub asked : (h : Holding) → is_found (take n found) h ≡ true → IsAsked tags a above found h
  pub in_range : n ≤ length found

pub searched-start : (tags : List MadeTag) (a : Delegation) (above : List ℕ) (p t : ℕ) (found : List Holding) → IsExtended [] found (is_same_holding (holding p t)) → IsSearched tags a above p t found 0
searched-start tags a above p t found e =
    let only : (h : Holding) → is_found found h ≡ true → holding p t ≡ h = λ h f. same_holding_is (holding p t) h (sym (e.members h) ∙ f) in
    let Within : Holding → Type 0 = λ h. below tags t h.tag ≡ true in
    let Backs : Holding → Type 0 = λ h. Holds tags a h.holder h.tag → Holds tags a p t in
    record {
      start = e.members (holding p t) ∙ grind (arith, nat_tests);
      within = λ h f. subst Within (only h f) (below_refl tags t);
      backs = λ h f. subst Backs (only h f) (λ held. held);
      asked = λ h f. absurd (true≢false (sym f));
      in_range = omega arith;
    }

-- the holding at a place is found
pub found_at : (found : List Holding) (i : ℕ) (h d : Holding) → i < length found → h ≡ get_or found i d → is_found found h ≡ true
found_at [] i h d lt e = absurd (omega arith)
found_at (x ∷ found) zero h d lt e = ap (λ y. is_same_holding y x || is_found found y) e ∙ grind (arith, nat_tests)
found_at (x ∷ found) (suc i) h d lt e = grind (arith, nat_tests, found_at found i h d (omega arith) e)

-- a step back keeps what is known
all_passes : (f : ℕ → Bool) (list : List ℕ) (u : ℕ) → list_all f list ≡ true → has list u ≡ true → f u ≡ true
all_passes f [] u a e = absurd (true≢false (sym e))
all_passes f (x ∷ list) u a e =
    let same : eqb x u ≡ true → f u ≡ true = λ s. ap f (sym (eqb-true x u s)) ∙ grind (arith, nat_tests) in
    grind (arith, nat_tests, same, all_passes f list u)

within_step : (tags : List MadeTag) (a : Delegation) (above : List ℕ) (t : ℕ) (h g : Holding) → AreAbove tags t above → below tags t h.tag ≡ true → leads tags a above h g ≡ true → below tags t g.tag ≡ true
within_step tags a above t h g all b e =
    let same : eqb g.tag h.tag ≡ true → below tags t g.tag ≡ true = λ s. ap (λ u. below tags t u) (eqb-true g.tag h.tag s) ∙ b in
    grind (arith, nat_tests, same, all_passes (λ u. below tags t u) above g.tag all)

holds_step : (tags : List MadeTag) (a : Delegation) (above : List ℕ) (h g : Holding) → AreWellFormed tags → leads tags a above h g ≡ true → Holds tags a g.holder g.tag → Holds tags a h.holder h.tag
holds_step tags a above h g w e held = by (is_grantor a h g) refl where
  by : (b : Bool) → is_grantor a h g ≡ b → Holds tags a h.holder h.tag
  by true i =
      let P : ℕ → Type 0 = λ u. Holds tags a g.holder u in
      holds-by_grant tags a g.holder h.holder h.tag (grind (arith, nat_tests)) (subst P (eqb-true g.tag h.tag (grind (arith, nat_tests))) held)
  by false i =
      let P : ℕ → Type 0 = λ q. Holds tags a q g.tag in
      holds_below tags a w h.holder h.tag g.tag (grind (arith, nat_tests)) (subst P (eqb-true g.holder h.holder (grind (arith, nat_tests))) held)

pub searched-next : (tags : List MadeTag) (a : Delegation) (above : List ℕ) (p t : ℕ) (found new : List Holding) (n : ℕ) (h d : Holding) → AreWellFormed tags → AreAbove tags t above
    → IsSearched tags a above p t found n → n < length found → h ≡ get_or found n d → is_owner a h.holder h.tag ≡ false → IsExtended found new (leads tags a above h) → IsSearched tags a above p t new (n + 1)
searched-next tags a above p t found new n h d w all before lt at owner more = record {
  start = grind (arith, nat_tests, more.members (holding p t), before.start);
  within = λ g f. within g (is_found found g) refl f;
  backs = λ g f held. backs g held (is_found found g) refl f;
  asked = λ g f. asked g (is_found (take n found) g) refl f;
  in_range = omega (arith, extended_length found new _ more);
} where
  here : is_found found h ≡ true
  here = found_at found n h d lt at

  led : (g : Holding) → is_found found g ≡ false → is_found new g ≡ true → leads tags a above h g ≡ true
  led g e f = grind (arith, nat_tests, more.members g)

  within : (g : Holding) (b : Bool) → is_found found g ≡ b → is_found new g ≡ true → below tags t g.tag ≡ true
  within g true e f = before.within g e
  within g false e f = within_step tags a above t h g all (before.within h here) (led g e f)

  backs : (g : Holding) → Holds tags a g.holder g.tag → (b : Bool) → is_found found g ≡ b → is_found new g ≡ true → Holds tags a p t
  backs g held true e f = before.backs g e held
  backs g held false e f = before.backs h here (holds_step tags a above h g w (led g e f) held)

  front : take (n + 1) new ≡ take n found ++ h ∷ []
  front = sym (take-take (n + 1) (length found) new (omega arith)) ∙ ap (λ l. take (n + 1) l) more.kept ∙ take_more found n d lt ∙ ap (λ x. take n found ++ x ∷ []) (sym at)

  kept : (g : Holding) → is_found found g ≡ true → is_found new g ≡ true
  kept g e = grind (arith, nat_tests, more.members g)

  new_steps : (g : Holding) → leads tags a above h g ≡ true → is_found new g ≡ true
  new_steps g e = grind (arith, nat_tests, more.members g)

  asked_h : IsAsked tags a above new h
  asked_h = record { not_owner = owner; steps = new_steps }

  asked : (g : Holding) (b : Bool) → is_found (take n found) g ≡ b → is_found (take (n + 1) new) g ≡ true → IsAsked tags a above new g
  asked g true e f = let old = before.asked g e in record { not_owner = old.not_owner; steps = λ x i. kept x (old.steps x i) }
  asked g false e f =
      let P : Holding → Type 0 = λ x. IsAsked tags a above new x in
      let last = sym (ap (λ l. is_found l g) front ∙ found-push (take n found) h g) ∙ f in
      subst P (same_holding_is h g (grind (arith, nat_tests))) asked_h

-- a grant or a parent by which one of those that are asked is held
grant_asked : (tags : List MadeTag) (a : Delegation) (above : List ℕ) (found : List Holding) (h : Holding) (k : ℕ) → IsAsked tags a above found h
    → ((g : Holding) → is_found found g ≡ true → holds_in tags a k g.holder g.tag ≡ false) → (g : Grant) → (eqb g.tag h.tag && eqb g.to h.holder) && holds_in tags a k g.from h.tag ≡ true
    → list_any (is_same_grant g) a.grants ≡ true → false ≡ true
grant_asked tags a above found h k asked ih g e s =
    let tag : g.tag ≡ h.tag = eqb-true g.tag h.tag (grind (arith, nat_tests)) in
    let to : g.to ≡ h.holder = eqb-true g.to h.holder (grind (arith, nat_tests)) in
    let stood : stands a (grant g.from h.tag h.holder) ≡ true = ap (λ u. stands a (grant g.from u h.holder)) (sym tag) ∙ ap (λ q. stands a (grant g.from g.tag q)) (sym to) ∙ s in
    let none = ih (holding g.from h.tag) (asked.steps (holding g.from h.tag) (grind (arith, nat_tests, stood))) in
    grind (arith, nat_tests, none)

parent_asked : (tags : List MadeTag) (a : Delegation) (above : List ℕ) (t : ℕ) (found : List Holding) (h : Holding) (k : ℕ) → AreWellFormed tags → HasAbove tags t above → below tags t h.tag ≡ true
    → IsAsked tags a above found h → ((g : Holding) → is_found found g ≡ true → holds_in tags a k g.holder g.tag ≡ false)
    → (u : ℕ) → ltb u h.tag && holds_in tags a k h.holder u ≡ true → has (parents_of tags h.tag) u ≡ true → false ≡ true
parent_asked tags a above t found h k w has_all within asked ih u e s =
    let up = parent_above tags w h.tag u s in
    let lt : u < h.tag = ltb-true u h.tag (grind (arith, nat_tests)) in
    let le = below_le tags w t h.tag within in
    let listed = has_all u (below_trans tags w t h.tag u within up) in
    let not_itself : eqb u t ≡ false = grind arith in
    let none = ih (holding h.holder u) (asked.steps (holding h.holder u) (grind (arith, nat_tests, listed, not_itself, up))) in
    grind (arith, nat_tests, none)

-- where all are asked, none of them is held
none_held : (tags : List MadeTag) (a : Delegation) (above : List ℕ) (t : ℕ) (found : List Holding) → AreWellFormed tags → HasAbove tags t above
    → ((h : Holding) → is_found found h ≡ true → below tags t h.tag ≡ true) → ((h : Holding) → is_found found h ≡ true → IsAsked tags a above found h)
    → (k : ℕ) (h : Holding) → is_found found h ≡ true → holds_in tags a k h.holder h.tag ≡ false
none_held tags a above t found w has_all within asked zero h f = (asked h f).not_owner
none_held tags a above t found w has_all within asked (suc k) h f =
    let ih = none_held tags a above t found w has_all within asked k in
    let grants = some_grant (λ (g : Grant). (eqb g.tag h.tag && eqb g.to h.holder) && holds_in tags a k g.from h.tag) false a.grants (grant_asked tags a above found h k (asked h f) ih) in
    let parents : list_any (λ u. holds_in tags a k h.holder u) (parents_of tags h.tag) ≡ true → false ≡ true = λ e.
    some_of (λ u. ltb u h.tag && holds_in tags a k h.holder u) false (parents_of tags h.tag) (parent_asked tags a above t found h k w has_all (within h f) (asked h f) ih)
    (both (λ u. ltb u h.tag) (λ u. holds_in tags a k h.holder u) (parents_of tags h.tag) (w.older h.tag) e) in
    grind (arith, nat_tests, (asked h f).not_owner, grants, parents)

pub searched-none : (tags : List MadeTag) (a : Delegation) (above : List ℕ) (p t : ℕ) (found : List Holding) (n : ℕ) → AreWellFormed tags → HasAbove tags t above
    → IsSearched tags a above p t found n → length found ≤ n → holds tags a p t ≡ false
searched-none tags a above p t found n w has_all s done =
    let P : List Holding → Type 0 = λ l. (h : Holding) → is_found l h ≡ true → IsAsked tags a above found h in
    none_held tags a above t found w has_all s.within (subst P (take_all n found done) s.asked) (steps_of tags a) (holding p t) s.start

-- the tags above a made tag are made
pub above_made : (tags : List MadeTag) → AreWellFormed tags → (t : ℕ) (above : List ℕ) → t < length tags → AreAbove tags t above → AreMade (length tags) above
above_made tags w t [] lt all = refl
above_made tags w t (u ∷ above) lt all = grind (arith, nat_tests, below_le tags w t u, above_made tags w t above lt)
