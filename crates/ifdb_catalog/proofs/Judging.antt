-- What an accepted request has passed.
use Rattle.std.proofs.Common.{◌≡◌, refl, Bool, true, false, ◌&&◌, List, [], ◌∷◌, Result, Ok, Err, cond, arith, ap, ◌∙◌, sym}
use Rattle.std.specs.Prelude.{not}
use Rattle.std.proofs.lemmas.Bool.Decides.{nat_tests}
use Rattle.ifdb_bound.specs.declared.request.Bound.{Bound}
use Rattle.ifdb_wire.specs.declared.fault.Fault.{Fault}
use Rattle.ifdb_catalog.specs.Check.{Check, judged}

-- no refusal comes
abbrev pub passes : List Check → Bool
passes [] = true
passes (c ∷ checks) = not c.comes && passes checks

abbrev or_default : Bound → Result Bound Fault → Bound
or_default d (Ok x) = x
or_default d (Err f) = d

-- what holds of the tree where no refusal comes holds of what is accepted
pub accepted : (f : Bound → Bool) (checks : List Check) (tree x : Bound) → judged checks tree ≡ Ok x → (passes checks ≡ true → f tree ≡ true) → f x ≡ true
unfolding judged
accepted f [] tree x e h = ap f (sym (ap (or_default tree) e)) ∙ h refl
accepted f (c ∷ checks) tree x e h = by c.comes refl e (λ j k. accepted f checks tree x j k) where
  by : (b : Bool) → c.comes ≡ b → cond b (Err c.fault) (judged checks tree) ≡ Ok x
      → (judged checks tree ≡ Ok x → (passes checks ≡ true → f tree ≡ true) → f x ≡ true) → f x ≡ true
  by true i j rest = grind (arith)
  by false i j rest = rest j (λ k. h (grind (arith, nat_tests)))
