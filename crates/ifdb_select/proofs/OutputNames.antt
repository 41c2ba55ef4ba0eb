-- The one item of an output name.
use Rattle.std.proofs.Common.{◌≡◌, refl, ap, sym, ◌∙◌, ℕ, ◌+◌, ◌<◌, Bool, true, false, ◌||◌, List, [], ◌∷◌, ◌++◌, map, length, take, get_or, append_assoc, Option, Some, None, cond}
use Rattle.std.proofs.lemmas.List.{append-nil, map-append, take_more}
use Rattle.std.proofs.lemmas.Grind.{flat_map-append}
use Rattle.ifdb_value.specs.declared.column.Column.{Column}
use Rattle.std.specs.List.{list_any}
use Rattle.ifdb_catalog.specs.Scope.{Scope, ScopeSource, the_one}
use Rattle.ifdb_catalog.specs.Queries.{all_names, is_output, outputs_named}

module _ (name : List ℕ) where
  -- what stands behind the first of the name
  behind : (place j : ℕ) (names : List (Option (List ℕ)))
      → the_one (place ∷ outputs_named name j names) ≡ cond (list_any (is_output name) names) None (Some place)
  behind place j [] = refl
  behind place j (n ∷ names) = by (is_output name n) (behind place (j + 1) names) where
    by : (b : Bool) → the_one (place ∷ outputs_named name (j + 1) names) ≡ cond (list_any (is_output name) names) None (Some place)
        → the_one (place ∷ cond b (j ∷ outputs_named name (j + 1) names) (outputs_named name (j + 1) names))
        ≡ cond (b || list_any (is_output name) names) None (Some place)
    by true rest = refl
    by false rest = rest

  -- where the first bears the name
  pub first_named : (j : ℕ) (n : Option (List ℕ)) (names : List (Option (List ℕ))) → is_output name n ≡ true
      → the_one (outputs_named name j (n ∷ names)) ≡ cond (list_any (is_output name) names) None (Some j)
  first_named j n names h =
      ap (λ (b : Bool). the_one (cond b (j ∷ outputs_named name (j + 1) names) (outputs_named name (j + 1) names))) h ∙ behind j (j + 1) names

-- the names of one source more
pub names_grow : (before now next : List (Option (List ℕ))) (scope : Scope) (k : ℕ) (s : ScopeSource) → k < length scope → s ≡ get_or scope k s
    → now ≡ before ++ map Some (all_names (take k scope)) → next ≡ now ++ map Some (map (λ (c : Column). c.name) s.columns)
    → next ≡ before ++ map Some (all_names (take (k + 1) scope))
names_grow before now next scope k s h is old new =
    let names = λ (s : ScopeSource). map (λ (c : Column). c.name) s.columns in
    let one : all_names (s ∷ []) ≡ names s = append-nil (names s) in
    let grown : take (k + 1) scope ≡ take k scope ++ s ∷ [] =
    take_more scope k s h ∙ ap (λ (x : ScopeSource). take k scope ++ x ∷ []) (sym is) in
    let all : all_names (take (k + 1) scope) ≡ all_names (take k scope) ++ names s =
    ap all_names grown ∙ (flat_map-append names (take k scope) (s ∷ []) ∙ ap (λ (l : List (List ℕ)). all_names (take k scope) ++ l) one) in
    let mapped : map Some (all_names (take (k + 1) scope)) ≡ map Some (all_names (take k scope)) ++ map Some (names s) =
    ap (map Some) all ∙ map-append Some (all_names (take k scope)) (names s) in
    new
    ∙ (ap (λ (l : List (Option (List ℕ))). l ++ map Some (names s)) old
    ∙ (append_assoc before (map Some (all_names (take k scope))) (map Some (names s))
    ∙ ap (λ (l : List (Option (List ℕ))). before ++ l) (sym mapped)))
