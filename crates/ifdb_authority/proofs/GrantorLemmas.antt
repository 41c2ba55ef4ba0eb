-- The grantors of a list with a grant more, or a grant less.
use Rattle.std.proofs.Common.{◌≡◌, ℕ, true, false, List, [], ◌∷◌, ◌++◌, refl, sym, ap, ◌∙◌, arith, ◌||◌, ◌&&◌, eqb, cond, zero, suc, ◌+◌, ◌<◌, length, get_or, take}
use Rattle.std.specs.Prelude.{not, filter}
use Rattle.std.specs.List.{list_any}
use Rattle.std.specs.Set.{remove_key}
use Rattle.std.proofs.lemmas.Bool.Decides.{nat_tests}
use Rattle.std.proofs.lemmas.List.{take_more}
use Rattle.ifdb_label.specs.Ancestors.{has}
use Rattle.ifdb_authority.specs.declared.grant.Grant.{Grant}
use Rattle.ifdb_authority.specs.declared.grantors.Grantors.{Grantors}
use Rattle.ifdb_authority.specs.Authority.{Delegation, is_same_grant, are_distinct, without, stands, granted, grant}
use Rattle.ifdb_authority.specs.Grantors.{holding, grantors_of, IsGrantedMore, IsGrantedLess, IsIndexed}
use Rattle.ifdb_authority.proofs.Grants.{any-push, any-without, distinct-push, distinct-without, same_grant_is, same_grant_refl}

has-push : (list : List ℕ) (p q : ℕ) → has (list ++ p ∷ []) q ≡ has list q || eqb p q
has-push [] p q = grind (arith, nat_tests)
has-push (x ∷ list) p q = grind (arith, nat_tests, has-push list p q)

has-dropped : (list : List ℕ) (p q : ℕ) → has (filter (λ x. not (eqb x p)) list) q ≡ has list q && not (eqb p q)
has-dropped [] p q = refl
has-dropped (x ∷ list) p q = grind (arith, nat_tests, has-dropped list p q)

pub indexed-more : (old new : Grantors) (grants : List Grant) (from tag to : ℕ) → IsIndexed old grants → list_any (is_same_grant (grant from tag to)) grants ≡ false
    → IsGrantedMore old new (holding to tag) from → IsIndexed new (grants ++ grant from tag to ∷ [])
indexed-more old new grants from tag to before absent more = record {
  distinct = distinct-push grants (grant from tag to) absent before.distinct;
  index = λ f t r. grind (arith, nat_tests, more (holding r t), before.index f t r, has-push (grantors_of old (holding r t)) from f, any-push (is_same_grant (grant f t r)) grants (grant from tag to));
}

pub indexed-less : (old new : Grantors) (grants : List Grant) (from tag to : ℕ) → IsIndexed old grants → IsGrantedLess old new (holding to tag) from
    → IsIndexed new (without (grant from tag to) grants)
indexed-less old new grants from tag to before less = record {
  distinct = distinct-without (grant from tag to) grants before.distinct;
  index = λ f t r. grind (arith, nat_tests, less (holding r t), before.index f t r, has-dropped (grantors_of old (holding r t)) from f, any-without (grant from tag to) (grant f t r) grants);
}

-- what isn't in the list can't be taken out
without_none : (g : Grant) (grants : List Grant) → list_any (is_same_grant g) grants ≡ false → without g grants ≡ grants
without_none g [] e = refl
without_none g (x ∷ grants) e = grind (arith, nat_tests, without_none g grants)

-- a grant that equals the first of such a list is nowhere else in it
first_alone : (g x : Grant) (grants : List Grant) → are_distinct (x ∷ grants) ≡ true → is_same_grant g x ≡ true → list_any (is_same_grant g) grants ≡ false
first_alone g x grants d e = ap (λ h. list_any (is_same_grant h) grants) (same_grant_is g x e) ∙ grind (arith, nat_tests)

-- where each grant is in the list once, the first equal one is the only one
pub remove_key-distinct : (g : Grant) (grants : List Grant) → are_distinct grants ≡ true → remove_key (is_same_grant g) grants ≡ without g grants
remove_key-distinct g [] d = refl
remove_key-distinct g (x ∷ grants) d =
    let ih = remove_key-distinct g grants (grind (arith, nat_tests)) in
    let gone : is_same_grant g x ≡ true → without g grants ≡ grants = λ e. without_none g grants (first_alone g x grants d e) in
    grind (arith, nat_tests, ih, gone)

-- the grant at a place is in the list
there_at : (grants : List Grant) (i : ℕ) (g d : Grant) → i < length grants → g ≡ get_or grants i d → list_any (is_same_grant g) grants ≡ true
there_at [] i g d lt e = absurd (omega arith)
there_at (x ∷ grants) zero g d lt e = ap (λ h. is_same_grant h x || list_any (is_same_grant h) grants) e ∙ grind (arith, nat_tests, same_grant_refl x)
there_at (x ∷ grants) (suc i) g d lt e = grind (arith, nat_tests, there_at grants i g d (omega arith) e)

-- and not before it, where each grant is in the list once
pub new_at : (grants : List Grant) (i : ℕ) (g d : Grant) → i < length grants → g ≡ get_or grants i d → are_distinct grants ≡ true → list_any (is_same_grant g) (take i grants) ≡ false
new_at grants zero g d lt e a = refl
new_at [] (suc i) g d lt e a = absurd (omega arith)
new_at (x ∷ grants) (suc i) g d lt e a =
    grind (arith, nat_tests, first_alone g x grants a, there_at grants i g d (omega arith) e, new_at grants i g d (omega arith) e)

-- the next grant of such a list is granted to who has those before it
pub granted_next : (grants : List Grant) (i : ℕ) (g : Grant) (a : Delegation) → i < length grants → g ≡ get_or grants i g → are_distinct grants ≡ true → a.grants ≡ take i grants
    → granted a g ≡ record { owners = a.owners; grants = take (i + 1) grants }
granted_next grants i g a lt e d now =
    let new : stands a g ≡ false = ap (list_any (is_same_grant g)) now ∙ new_at grants i g g lt e d in
    let more : take (i + 1) grants ≡ a.grants ++ g ∷ [] = take_more grants i g lt ∙ ap (λ h. take i grants ++ h ∷ []) (sym e) ∙ ap (λ l. l ++ g ∷ []) (sym now) in
    ap (λ b. cond b a (record a { grants = a.grants ++ g ∷ [] })) new ∙ ap (λ (l : List Grant). record { owners = a.owners; grants = l }) (sym more)
