-- What a search has found, step by step.
use Rattle.std.proofs.Common.{◌≡◌, ℕ, Bool, true, false, List, [], ◌∷◌, ◌++◌, refl, sym, ap, ◌∙◌, arith, ◌||◌, ◌&&◌, eqb, cond, ◌+◌, ◌<◌, ◌≤◌, length, get_or, take, length-take}
use Rattle.std.proofs.lemmas.Bool.Decides.{nat_tests}
use Rattle.std.proofs.lemmas.List.{take-append-le, take-take, take_all}
use Rattle.std.proofs.lemmas.List.Folds.{list_any_more}
use Rattle.std.proofs.Math.Seq.{take-length}
use Rattle.ifdb_label.specs.Tags.{MadeTag}
use Rattle.ifdb_label.specs.Ancestors.{has}
use Rattle.ifdb_authority.specs.declared.holding.Holding.{Holding}
use Rattle.ifdb_authority.specs.Grantors.{is_same_holding, grantors_of, IsIndexed}
use Rattle.ifdb_authority.specs.declared.grantors.Grantors.{Grantors}
use Rattle.ifdb_authority.specs.Authority.{Delegation}
use Rattle.ifdb_authority.specs.Search.{is_found, is_above, is_grantor, leads, IsExtended}

pub found-push : (list : List Holding) (x h : Holding) → is_found (list ++ x ∷ []) h ≡ is_found list h || is_same_holding x h
found-push [] x h = grind (arith, nat_tests)
found-push (y ∷ list) x h = grind (arith, nat_tests, found-push list x h)

pub same_holding_is : (h x : Holding) → is_same_holding h x ≡ true → h ≡ x
same_holding_is h x e =
    let holder : h.holder ≡ x.holder = grind (arith, nat_tests) in
    let tag : h.tag ≡ x.tag = grind (arith, nat_tests) in
    λ i. record { holder = holder i; tag = tag i }

-- nothing more
pub extended-none : (list : List Holding) (f : Holding → Bool) → ((h : Holding) → f h ≡ false) → IsExtended list list f
extended-none list f e = record { kept = take-length list; members = λ h. grind (arith, nat_tests, e h) }

-- a holding that is put behind, unless it is in the list
pub extended-insert : (list : List Holding) (x : Holding) → IsExtended list (cond (is_found list x) list (list ++ x ∷ [])) (is_same_holding x)
extended-insert list x = by (is_found list x) refl where
  here : (h : Holding) → is_found list x ≡ true → is_same_holding x h ≡ true → is_found list h ≡ true
  here h e s = ap (is_found list) (sym (same_holding_is x h s)) ∙ e

  by : (b : Bool) → is_found list x ≡ b → IsExtended list (cond b list (list ++ x ∷ [])) (is_same_holding x)
  by true e = record { kept = take-length list; members = λ h. grind (arith, nat_tests, here h e) }
  by false e = record { kept = take-append-le (length list) list (x ∷ []) (omega arith) ∙ take-length list; members = λ h. found-push list x h }

pub extended_length : (old new : List Holding) (f : Holding → Bool) → IsExtended old new f → length old ≤ length new
extended_length old new f e = let n = ap length e.kept in omega (arith, length-take (length old) new)

-- one extension and then another
pub extended-twice : (old mid new : List Holding) (f g r : Holding → Bool) → IsExtended old mid f → IsExtended mid new g → ((h : Holding) → r h ≡ f h || g h) → IsExtended old new r
extended-twice old mid new f g r one two whole = record {
  kept = sym (take-take (length old) (length mid) new (extended_length old mid f one)) ∙ ap (λ l. take (length old) l) two.kept ∙ one.kept;
  members = λ h. grind (arith, nat_tests, one.members h, two.members h, whole h);
}

-- a tag of the list more
pub above-more : (tags : List MadeTag) (above : List ℕ) (i t d : ℕ) (of : Holding) (old now new : List Holding) → i < length above → t ≡ get_or above i d
    → IsExtended old now (is_above tags (take i above) of) → IsExtended now new (is_above tags (t ∷ []) of) → IsExtended old new (is_above tags (take (i + 1) above) of)
above-more tags above i t d of old now new lt e before more = extended-twice old now new _ _ _ before more (λ h. grind (arith, nat_tests, list_any_more (λ u. eqb u h.tag) above i d lt, e))

pub extended-same : (old new : List Holding) (f g : Holding → Bool) → IsExtended old new f → ((h : Holding) → g h ≡ f h) → IsExtended old new g
extended-same old new f g e same = record { kept = e.kept; members = λ h. e.members h ∙ ap (λ b. is_found old h || b) (sym (same h)) }

-- those that were gone through are all grantors
pub grantors-all : (a : Delegation) (grantors : Grantors) (to : Holding) (items : List ℕ) (i : ℕ) → IsIndexed grantors a.grants → items ≡ grantors_of grantors to → length items ≤ i
    → (h : Holding) → is_grantor a to h ≡ eqb h.tag to.tag && has (take i items) h.holder
grantors-all a grantors to items i indexed listed done h =
    ap (λ b. eqb h.tag to.tag && b) (sym (indexed.index h.holder to.tag to.holder) ∙ ap (λ l. has l h.holder) (sym listed ∙ sym (take_all i items done)))

-- grantors, and then tags above
pub extended-steps : (tags : List MadeTag) (a : Delegation) (above : List ℕ) (to : Holding) (old mid new : List Holding) → IsExtended old mid (is_grantor a to) → IsExtended mid new (is_above tags above to)
    → IsExtended old new (leads tags a above to)
extended-steps tags a above to old mid new one two = extended-twice old mid new _ _ _ one two (λ h. refl)
