-- Lists of values of which one may be out of range.
use Rattle.std.proofs.Common.{◌≡◌, ℕ, zero, suc, ◌+◌, ◌<◌, List, [], ◌∷◌, ◌++◌, length, get_or, map, take, refl, sym, ap, ◌∙◌, arith, Option, Some, None, Err}
use Rattle.std.proofs.lemmas.Grind.{common_steps}
use Rattle.std.proofs.lemmas.List.{map-append}
use Rattle.ifdb_bound.specs.Query.{both, all_some}
use Rattle.ifdb_expr.specs.declared.fault.ExprFault.{ExprFault}
use Rattle.ifdb_expr.specs.declared.fault.ExprFault.TheVariants as fault
use Rattle.ifdb_expr.specs.Tells.{Tells}

pub all_there : {A : Type 0} (xs : List A) → all_some (map Some xs) ≡ Some xs
all_there [] = refl
all_there (x ∷ xs) = ap (both (Some x)) (all_there xs)

both_none : {A : Type 0} (o : Option A) → both o None ≡ None
both_none None = refl
both_none (Some x) = refl

pub one_missing : {X A : Type 0} (gives : X → Option A) (xs : List X) (i : ℕ) (x : X) → i < length xs → x ≡ get_or xs i x → gives x ≡ None → all_some (map gives xs) ≡ None
one_missing gives [] i x h e n = grind arith
one_missing gives (y ∷ xs) zero x h e n = ap (λ o. both o (all_some (map gives xs))) (ap gives (sym e) ∙ n)
one_missing gives (y ∷ xs) (suc i) x h e n = ap (both (gives y)) (one_missing gives xs i x (omega arith) e n) ∙ both_none (gives y)

pub fault_goes_on : {A B : Type 0} (o : Option A) (p : Option B) (e : ExprFault) → (o ≡ None → p ≡ None) → Tells o (Err e) → Tells p (Err e)
fault_goes_on o p fault.OutOfRange h t = h t
fault_goes_on o p fault.OutOfMemory h t = tt

pub one_more : {X A : Type 0} (gives : X → Option A) (xs : List X) (i : ℕ) (x : X) (all : List A) (a : A) → i < length xs → x ≡ get_or xs i x → map gives (take i xs) ≡ map Some all → gives x ≡ Some a
    → map gives (take (i + 1) xs) ≡ map Some (all ++ a ∷ [])
one_more gives xs i x all a h e m g =
    let longer : take (i + 1) xs ≡ take i xs ++ x ∷ [] = grind (arith, common_steps) in
    ap (map gives) longer ∙ map-append gives (take i xs) (x ∷ []) ∙ (λ j. m j ++ g j ∷ []) ∙ sym (map-append Some all (a ∷ []))
