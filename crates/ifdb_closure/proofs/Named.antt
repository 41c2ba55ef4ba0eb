-- Closures by their names, from a place on.
use Rattle.std.proofs.Common.{◌≡◌, ℕ, zero, suc, ◌+◌, ◌<◌, true, false, List, [], ◌∷◌, length, drop, get_or, refl, sym, ap, ◌∙◌, arith, cond, Some}
use Rattle.std.specs.Prelude.{bytes_eq}
use Rattle.ifdb_closure.specs.Closures.{Closure, closure_named}

-- what stands from a place on is the item there, and what stands behind it
pub next_of : {X : Type 0} (xs : List X) (i : ℕ) (d : X) → i < length xs → drop i xs ≡ get_or xs i d ∷ drop (i + 1) xs
next_of [] i d lt = absurd (omega (arith, lt))
next_of (x ∷ xs) zero d lt = refl
next_of (x ∷ xs) (suc i) d lt =
    let on : suc i + 1 ≡ suc (i + 1) = omega arith in
    next_of xs i d (omega (arith, lt)) ∙ ap (λ k. get_or xs i d ∷ drop k (x ∷ xs)) (sym on)

pub named_here : (cs : List Closure) (name : List ℕ) (i : ℕ) (d : Closure) → i < length cs → closure_named cs name ≡ closure_named (drop i cs) name
    → bytes_eq (get_or cs i d).name name ≡ true → closure_named cs name ≡ Some (get_or cs i d)
named_here cs name i d lt from e =
    from ∙ ap (λ l. closure_named l name) (next_of cs i d lt) ∙ ap (λ b. cond b (Some (get_or cs i d)) (closure_named (drop (i + 1) cs) name)) e

pub named_on : (cs : List Closure) (name : List ℕ) (i : ℕ) (d : Closure) → i < length cs → closure_named cs name ≡ closure_named (drop i cs) name
    → bytes_eq (get_or cs i d).name name ≡ false → closure_named cs name ≡ closure_named (drop (i + 1) cs) name
named_on cs name i d lt from e =
    from ∙ ap (λ l. closure_named l name) (next_of cs i d lt) ∙ ap (λ b. cond b (Some (get_or cs i d)) (closure_named (drop (i + 1) cs) name)) e
