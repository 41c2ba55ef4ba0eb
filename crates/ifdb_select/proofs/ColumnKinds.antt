-- The kinds of a scope's columns.
use Rattle.std.proofs.Common.{◌≡◌, refl, ap, sym, ◌∙◌, ℕ, zero, suc, List, [], ◌∷◌, length, map, Some, None, arith}
use Rattle.std.specs.Prelude.{slice_get, slice_index_or, bytes_eq, position}
use Rattle.std.proofs.lemmas.List.{length-map}
use Rattle.ifdb_value.specs.declared.column.Column.{Column}
use Rattle.ifdb_value.specs.declared.value.ValueKind.{ValueKind}
use Rattle.ifdb_bound.specs.declared.expression.BoundColumn.{BoundColumn}
use Rattle.ifdb_bound.specs.Kinds.{column_kind}
use Rattle.ifdb_catalog.specs.Scope.{Scope, ScopeSource, columns_of, kinds_in, kinds_of}

-- ---- the kind of a column of a scope

source_kinds : (scope : Scope) (n : ℕ) (s : ScopeSource) → slice_get scope n ≡ Some s → slice_index_or (kinds_in scope) n [] ≡ kinds_of s.columns
source_kinds [] n s h = cc
source_kinds (x ∷ scope) zero s h = grind (arith)
source_kinds (x ∷ scope) (suc n) s h = source_kinds scope n s h

no_kinds : (scope : Scope) (n : ℕ) → slice_get scope n ≡ None → slice_index_or (kinds_in scope) n [] ≡ []
no_kinds [] n h = refl
no_kinds (x ∷ scope) zero h = cc
no_kinds (x ∷ scope) (suc n) h = no_kinds scope n h

pub kind_of_place : (scope : Scope) (c : BoundColumn) (s : ScopeSource) → slice_get scope c.source ≡ Some s
    → slice_get (kinds_of s.columns) c.column ≡ column_kind (kinds_in scope) c
kind_of_place scope c s h = ap (λ (k : List ValueKind). slice_get k c.column) (sym (source_kinds scope c.source s h))

pub no_kind : (scope : Scope) (c : BoundColumn) → slice_get scope c.source ≡ None → None ≡ column_kind (kinds_in scope) c
no_kind scope c h = ap (λ (k : List ValueKind). slice_get k c.column) (sym (no_kinds scope c.source h))

pub as_many_kinds : (scope : Scope) → length (kinds_in scope) ≡ length scope
as_many_kinds scope = length-map scope (λ (s : ScopeSource). kinds_of s.columns)

-- ---- columns of names and kinds

pub names_of_columns : (names : List (List ℕ)) (kinds : List ValueKind) → length names ≡ length kinds
    → map (λ (c : Column). c.name) (columns_of names kinds) ≡ names
names_of_columns [] kinds h = refl
names_of_columns (n ∷ names) [] h = grind (arith)
names_of_columns (n ∷ names) (k ∷ kinds) h = ap (λ (l : List (List ℕ)). n ∷ l) (names_of_columns names kinds (grind (arith)))

pub kinds_of_columns : (names : List (List ℕ)) (kinds : List ValueKind) → length names ≡ length kinds → kinds_of (columns_of names kinds) ≡ kinds
kinds_of_columns [] [] h = refl
kinds_of_columns [] (k ∷ kinds) h = grind (arith)
kinds_of_columns (n ∷ names) [] h = grind (arith)
kinds_of_columns (n ∷ names) (k ∷ kinds) h = ap (λ (l : List ValueKind). k ∷ l) (kinds_of_columns names kinds (grind (arith)))

pub width_of_columns : (names : List (List ℕ)) (kinds : List ValueKind) → length names ≡ length kinds → length (columns_of names kinds) ≡ length names
width_of_columns names kinds h =
    sym (length-map (columns_of names kinds) (λ (c : Column). c.name)) ∙ ap (λ (l : List (List ℕ)). length l) (names_of_columns names kinds h)

-- the place of a column is that of its name
pub place_by_names : (name : List ℕ) (columns : List Column)
    → position (λ (c : Column). bytes_eq c.name name) columns ≡ position (λ n. bytes_eq n name) (map (λ (c : Column). c.name) columns)
place_by_names name [] = refl
place_by_names name (c ∷ columns) = grind (arith, place_by_names name columns)
