-- Which refusal a CREATE VIEW meets first.
use Rattle.std.proofs.Common.{◌≡◌, refl, ap, sym, ◌∙◌, ℕ, ◌+◌, ◌<◌, Bool, true, false, ◌&&◌, List, [], ◌∷◌, ◌++◌, take, get_or, length, arith, Option, Some, None, Result, Ok, Err}
use Rattle.std.specs.Prelude.{not}
use Rattle.std.specs.List.{list_all}
use Rattle.std.proofs.lemmas.Bool.Decides.{nat_tests}
use Rattle.std.proofs.lemmas.List.{take_more}
use Rattle.ifdb_syntax.specs.declared.select.Select.{Select}
use Rattle.ifdb_syntax.specs.declared.select.Source.{Source}
use Rattle.ifdb_bound.specs.declared.request.Bound.{Bound}
use Rattle.ifdb_bound.specs.declared.request.Bound.TheVariants as b
use Rattle.ifdb_bound.specs.declared.request.Change.TheVariants as change
use Rattle.ifdb_wire.specs.declared.fault.Fault.{Fault}
use Rattle.ifdb_wire.specs.declared.fault.Fault.TheVariants.{Taken, UnknownName, NotATable, TypeMismatch}
use Rattle.ifdb_catalog.specs.Check.{◌when◌, judged}
use Rattle.ifdb_catalog.specs.Public.{Public}
use Rattle.ifdb_catalog.specs.Scope.{Scope, scope_of}
use Rattle.ifdb_catalog.specs.Queries.{is_relation, output, select_is_known, select_fits}
use Rattle.ifdb_catalog.specs.Statements.{are_tags}
use Rattle.ifdb_catalog.specs.Definitions.{bound_view, given, have_kinds, is_from_view, names_fit}
use Rattle.ifdb_catalog.specs.Binding.{create_view}

-- what binding comes to, by which checks fail
outcome : Bool → Bool → Bool → Bool → Bound → Result Bound Fault
outcome taken known viewed fits tree = judged ((Taken when taken) ∷ (UnknownName when not known) ∷ (NotATable when viewed) ∷ (TypeMismatch when not fits) ∷ []) tree

module _ (p : Public) (asker : ℕ) (name : List ℕ) (s : Select) (tags : List (List ℕ)) where
  pub taken : is_relation p name ≡ true → create_view p asker name s tags ≡ Err Taken
  unfolding judged
  taken h = rw h refl

  pub unknown_source : is_relation p name ≡ false → list_all (λ (x : Source). is_relation p x.name) s.sources ≡ false
      → create_view p asker name s tags ≡ Err UnknownName
  unfolding judged
  unknown_source h k = rw (h, k) refl

module _ (p : Public) (asker : ℕ) (name : List ℕ) (s : Select) (tags : List (List ℕ)) (scope : Scope)
    (new : is_relation p name ≡ false) (same : scope ≡ scope_of p s.sources) where
  known : Bool
  known = select_is_known p scope s && are_tags p tags

  fits : Bool
  fits = select_fits p scope s && (names_fit (output scope s) && have_kinds scope s)

  tree : Bound
  tree = b.Change (change.View (bound_view p asker name scope s tags))

  over_scope : create_view p asker name s tags ≡ outcome false known (is_from_view p s) fits tree
  unfolding outcome known fits tree
  over_scope =
      sym (ap (λ (x : Scope). outcome (is_relation p name) (select_is_known p x s && are_tags p tags) (is_from_view p s)
      (select_fits p x s && (names_fit (output x s) && have_kinds x s)) (b.Change (change.View (bound_view p asker name x s tags)))) same)
      ∙ ap (λ (t : Bool). outcome t known (is_from_view p s) fits tree) new

  pub unknown : select_is_known p scope s && are_tags p tags ≡ false → create_view p asker name s tags ≡ Err UnknownName
  unfolding judged outcome known
  unknown h = over_scope ∙ ap (λ (k : Bool). outcome false k (is_from_view p s) fits tree) h

  pub viewed : select_is_known p scope s && are_tags p tags ≡ true → is_from_view p s ≡ true → create_view p asker name s tags ≡ Err NotATable
  unfolding judged outcome known
  viewed h k = over_scope ∙ (λ j. outcome false (h j) (k j) fits tree)

  pub mismatched : select_is_known p scope s && are_tags p tags ≡ true → is_from_view p s ≡ false → select_fits p scope s && (names_fit (output scope s) && have_kinds scope s) ≡ false
      → create_view p asker name s tags ≡ Err TypeMismatch
  unfolding judged outcome known fits
  mismatched h k l = over_scope ∙ (λ j. outcome false (h j) (k j) (l j) tree)

  pub accepted : select_is_known p scope s && are_tags p tags ≡ true → is_from_view p s ≡ false → select_fits p scope s && (names_fit (output scope s) && have_kinds scope s) ≡ true
      → create_view p asker name s tags ≡ Ok (b.Change (change.View (bound_view p asker name scope s tags)))
  unfolding judged outcome known fits tree
  accepted h k l = over_scope ∙ (λ j. outcome false (h j) (k j) (l j) tree)

-- ---- the checks of a view's items

-- the names fail, or what is beside them does
pub without_names : (fits names kinds : Bool) → names ≡ false → fits && (names && kinds) ≡ false
without_names fits names kinds h = grind (arith, nat_tests)

pub without_kinds : (fits names kinds : Bool) → fits && kinds ≡ false → fits && (names && kinds) ≡ false
without_kinds fits names kinds h = grind (arith, nat_tests)

pub with_all : (fits names kinds : Bool) → fits && kinds ≡ true → names ≡ true → fits && (names && kinds) ≡ true
with_all fits names kinds h k = grind (arith, nat_tests)

-- ---- the names that there are

given-append : (xs ys : List (Option (List ℕ))) → given (xs ++ ys) ≡ given xs ++ given ys
given-append [] ys = refl
given-append (None ∷ xs) ys = given-append xs ys
given-append (Some n ∷ xs) ys = ap (λ (l : List (List ℕ)). n ∷ l) (given-append xs ys)

-- one name more
pub given_more : (xs : List (Option (List ℕ))) (k : ℕ) (o : Option (List ℕ)) → k < length xs → o ≡ get_or xs k o
    → given (take (k + 1) xs) ≡ given (take k xs) ++ given (o ∷ [])
given_more xs k o h is =
    ap given (take_more xs k o h)
    ∙ (given-append (take k xs) (get_or xs k o ∷ []) ∙ ap (λ (x : Option (List ℕ)). given (take k xs) ++ given (x ∷ [])) (sym is))

-- and the names that are gathered
pub given_grow : (now next : List (List ℕ)) (xs : List (Option (List ℕ))) (k : ℕ) (o : Option (List ℕ)) → k < length xs → o ≡ get_or xs k o
    → now ≡ given (take k xs) → next ≡ now ++ given (o ∷ []) → next ≡ given (take (k + 1) xs)
given_grow now next xs k o h is old new = new ∙ (ap (λ (l : List (List ℕ)). l ++ given (o ∷ [])) old ∙ sym (given_more xs k o h is))
