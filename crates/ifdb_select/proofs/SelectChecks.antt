-- Which refusal a SELECT meets first.
use Rattle.std.proofs.Common.{◌≡◌, refl, ap, sym, ◌∙◌, Bool, true, false, [], ◌∷◌, Result, Ok, Err}
use Rattle.std.specs.Prelude.{not}
use Rattle.std.specs.List.{list_all}
use Rattle.ifdb_syntax.specs.declared.select.Select.{Select}
use Rattle.ifdb_syntax.specs.declared.select.Source.{Source}
use Rattle.ifdb_bound.specs.declared.request.Bound.{Bound}
use Rattle.ifdb_bound.specs.declared.request.Bound.TheVariants as b
use Rattle.ifdb_wire.specs.declared.fault.Fault.{Fault}
use Rattle.ifdb_wire.specs.declared.fault.Fault.TheVariants.{UnknownName, TypeMismatch}
use Rattle.ifdb_catalog.specs.Check.{◌when◌, judged}
use Rattle.ifdb_catalog.specs.Public.{Public}
use Rattle.ifdb_catalog.specs.Scope.{Scope, scope_of}
use Rattle.ifdb_catalog.specs.Queries.{is_relation, select_is_known, select_fits, bound_select}
use Rattle.ifdb_catalog.specs.Binding.{select}

pub unknown_source : (p : Public) (s : Select) → list_all (λ (x : Source). is_relation p x.name) s.sources ≡ false → select p s ≡ Err UnknownName
unfolding judged
unknown_source p s h = rw h refl

-- what binding comes to, by whether all names are known and all fits
outcome : Bool → Bool → Bound → Result Bound Fault
outcome known fits tree = judged ((UnknownName when not known) ∷ (TypeMismatch when not fits) ∷ []) tree

module _ (p : Public) (s : Select) (scope : Scope) (same : scope ≡ scope_of p s.sources) where
  over_scope : select p s ≡ outcome (select_is_known p scope s) (select_fits p scope s) (b.Select (bound_select p scope s))
  unfolding outcome
  over_scope = sym (ap (λ (x : Scope). outcome (select_is_known p x s) (select_fits p x s) (b.Select (bound_select p x s))) same)

  pub unknown : select_is_known p scope s ≡ false → select p s ≡ Err UnknownName
  unfolding judged outcome
  unknown h = over_scope ∙ ap (λ (k : Bool). outcome k (select_fits p scope s) (b.Select (bound_select p scope s))) h

  pub mismatched : select_is_known p scope s ≡ true → select_fits p scope s ≡ false → select p s ≡ Err TypeMismatch
  unfolding judged outcome
  mismatched h k = over_scope ∙ (λ j. outcome (h j) (k j) (b.Select (bound_select p scope s)))

  pub accepted : select_is_known p scope s ≡ true → select_fits p scope s ≡ true → select p s ≡ Ok (b.Select (bound_select p scope s))
  unfolding judged outcome
  accepted h k = over_scope ∙ (λ j. outcome (h j) (k j) (b.Select (bound_select p scope s)))
