-- A grant or a revocation touches one grant.
use Rattle.std.proofs.Common.{◌≡◌, ℕ, ◌+◌, ◌<◌, ◌≤◌, Bool, true, false, List, [], ◌∷◌, ◌++◌, length, refl, ap, arith, ◌||◌, ◌&&◌, eqb}
use Rattle.std.specs.Prelude.{not}
use Rattle.std.specs.List.{list_any}
use Rattle.std.proofs.lemmas.Bool.Decides.{nat_tests}
use Rattle.ifdb_authority.specs.declared.grant.Grant.{Grant}
use Rattle.ifdb_authority.specs.Authority.{Delegation, is_same_grant, stands, are_distinct, granted, without, revoked}

pub same_grant_refl : (g : Grant) → is_same_grant g g ≡ true
same_grant_refl g = grind (arith, nat_tests)

pub same_grant_is : (g h : Grant) → is_same_grant g h ≡ true → g ≡ h
same_grant_is g h e =
    let from : g.from ≡ h.from = grind (arith, nat_tests) in
    let tag : g.tag ≡ h.tag = grind (arith, nat_tests) in
    let to : g.to ≡ h.to = grind (arith, nat_tests) in
    λ i. record { from = from i; tag = tag i; to = to i }

pub any-push : (p : Grant → Bool) (grants : List Grant) (g : Grant) → list_any p (grants ++ g ∷ []) ≡ list_any p grants || p g
any-push p [] g = grind (arith, nat_tests)
any-push p (h ∷ grants) g = grind (arith, nat_tests, any-push p grants g)

pub stands-granted : (a : Delegation) (g h : Grant) → stands (granted a g) h ≡ stands a h || is_same_grant h g
stands-granted a g h = by (stands a g) refl where
  there : (grants : List Grant) → list_any (is_same_grant g) grants ≡ true → is_same_grant h g ≡ true → list_any (is_same_grant h) grants ≡ true
  there [] i j = grind (arith, nat_tests)
  there (x ∷ grants) i j = grind (arith, nat_tests, there grants)

  by : (b : Bool) → stands a g ≡ b → stands (Rattle.std.proofs.Common.cond b a (record a { grants = a.grants ++ g ∷ [] })) h ≡ stands a h || is_same_grant h g
  by true e = grind (arith, nat_tests, there a.grants e)
  by false e = any-push (is_same_grant h) a.grants g

pub any-without : (g h : Grant) (grants : List Grant) → list_any (is_same_grant h) (without g grants) ≡ list_any (is_same_grant h) grants && not (is_same_grant h g)
any-without g h [] = refl
any-without g h (x ∷ grants) = grind (arith, nat_tests, any-without g h grants)

pub stands-revoked : (a : Delegation) (g h : Grant) → stands (revoked a g) h ≡ stands a h && not (is_same_grant h g)
stands-revoked a g h = any-without g h a.grants

pub distinct-push : (grants : List Grant) (g : Grant) → list_any (is_same_grant g) grants ≡ false → are_distinct grants ≡ true → are_distinct (grants ++ g ∷ []) ≡ true
distinct-push [] g e d = refl
distinct-push (x ∷ grants) g e d = grind (arith, nat_tests, distinct-push grants g, any-push (is_same_grant x) grants g)

pub distinct-granted : (a : Delegation) (g : Grant) → are_distinct a.grants ≡ true → are_distinct (granted a g).grants ≡ true
distinct-granted a g d = by (stands a g) refl where
  by : (b : Bool) → stands a g ≡ b → are_distinct (Rattle.std.proofs.Common.cond b a (record a { grants = a.grants ++ g ∷ [] })).grants ≡ true
  by true e = d
  by false e = distinct-push a.grants g e d

pub distinct-without : (g : Grant) (grants : List Grant) → are_distinct grants ≡ true → are_distinct (without g grants) ≡ true
distinct-without g [] d = refl
distinct-without g (x ∷ grants) d = grind (arith, nat_tests, distinct-without g grants, any-without g x grants)

-- without a grant that stands there are fewer
pub length-without : (g : Grant) (grants : List Grant) → length (without g grants) ≤ length grants
length-without g [] = omega arith
length-without g (x ∷ grants) = grind (arith, nat_tests, length-without g grants)

pub fewer-without : (g : Grant) (grants : List Grant) → list_any (is_same_grant g) grants ≡ true → length (without g grants) < length grants
fewer-without g [] e = grind (arith, nat_tests)
fewer-without g (x ∷ grants) e = grind (arith, nat_tests, fewer-without g grants, length-without g grants)
