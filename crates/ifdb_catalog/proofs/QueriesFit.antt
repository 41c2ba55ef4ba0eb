-- A bound SELECT fits the public state.
use Rattle.std.proofs.Common.{◌≡◌, refl, sym, ◌∙◌, subst, ℕ, ◌+◌, Bool, true, false, ◌&&◌, List, [], ◌∷◌, length, map, Option, Some, None, arith}
use Rattle.std.specs.Prelude.{flat_map}
use Rattle.std.specs.Option.{is_some}
use Rattle.std.specs.List.{list_all, list_any}
use Rattle.std.proofs.lemmas.Bool.Decides.{nat_tests}
use Rattle.ifdb_value.specs.declared.value.ValueKind.{ValueKind}
use Rattle.ifdb_value.specs.declared.column.Column.{Column}
use Rattle.ifdb_syntax.specs.declared.select.Select.{Select}
use Rattle.ifdb_syntax.specs.declared.select.Source.{Source}
use Rattle.ifdb_syntax.specs.declared.select.Item.{Item}
use Rattle.ifdb_syntax.specs.declared.select.Item.TheVariants as i
use Rattle.ifdb_bound.specs.Forms as forms
use Rattle.ifdb_bound.specs.Kinds as kinds
use Rattle.ifdb_bound.specs.declared.select.Relation.{Relation}
use Rattle.ifdb_bound.specs.declared.select.Relation.TheVariants as relation
use Rattle.ifdb_catalog.specs.Public.{Public, relation_named}
use Rattle.ifdb_catalog.specs.Scope.{Scope, kinds_of, kinds_in, relation_columns, scope_of}
use Rattle.ifdb_catalog.specs.Queries as queries
use Rattle.ifdb_catalog.specs.Queries.{relation_or, is_view, is_view_of, key_of, bound_source, columns_from, all_from, all_names, output_names, bound_item, output, are_distinct, items_stand, counts_stand, select_is_known, bound_select}
use Rattle.ifdb_catalog.specs.Definitions.{given, is_given, names_fit}
use Rattle.ifdb_catalog.specs.Fits as fits
use Rattle.ifdb_catalog.specs.Fits.{same_places, source_kinds, source_fits, counts_fit, query_fits, is_over_table, is_of_table}
use Rattle.std.proofs.Common.{length-append}
use Rattle.std.proofs.lemmas.List.{length-map}
use Rattle.ifdb_bound.specs.declared.expression.BoundExpr.TheVariants as be
use Rattle.ifdb_bound.specs.declared.select.BoundItem.TheVariants as bi
use Rattle.ifdb_catalog.proofs.Tests.{first_of, rest_of, both_of}
use Rattle.std.proofs.lemmas.Slice.Eq.{bytes_eq-Decides}
use Rattle.ifdb_catalog.proofs.Found.{is_the_relation, relation_stands}
use Rattle.ifdb_catalog.proofs.FormsStand.{items_stand_bound, counts_fit_bound}

-- ---- sources

abbrev are_known : Public → List Source → Bool
are_known p sources = list_all (λ (x : Source). queries.is_relation p x.name) sources

pub kinds_are_sources : (p : Public) (sources : List Source) → are_known p sources ≡ true
    → kinds_in (scope_of p sources) ≡ source_kinds p (map (bound_source p) sources)
kinds_are_sources p [] h = refl
kinds_are_sources p (s ∷ sources) h =
    let first : queries.is_relation p s.name ≡ true = grind (arith, nat_tests) in
    let rest : are_known p sources ≡ true = grind (arith, nat_tests) in
    λ j. kinds_of (relation_columns p (is_the_relation (relation_named p s.name) first j)) ∷ kinds_are_sources p sources rest j

-- a source bears its own key
same_key : (places : List ℕ) → same_places places places ≡ true
same_key places = (bytes_eq-Decides places places).1 refl

sources_stand : (p : Public) (sources : List Source) → are_known p sources ≡ true → list_all (source_fits p) (map (bound_source p) sources) ≡ true
sources_stand p [] h = refl
sources_stand p (s ∷ sources) h =
    let r = relation_or (relation_named p s.name) in
    let there : queries.is_relation p s.name ≡ true = first_of (queries.is_relation p s.name) (are_known p sources) h in
    let known : are_known p sources ≡ true = rest_of (queries.is_relation p s.name) (are_known p sources) h in
    both_of (source_fits p (bound_source p s)) (list_all (source_fits p) (map (bound_source p) sources))
    (both_of (fits.is_relation p r) (same_places (key_of p r) (key_of p r)) (relation_stands p s.name there) (same_key (key_of p r)))
    (sources_stand p sources known)

-- what a SELECT passes whose kinds and forms fit
fitting_parts : (aliases items counts kinds : Bool) → aliases && (items && (counts && kinds)) ≡ true → (items ≡ true) × (counts ≡ true) × (kinds ≡ true)
fitting_parts aliases items counts kinds h = grind (arith, nat_tests)

-- a SELECT whose names are known and whose forms and kinds fit
pub query_is_fitting : (p : Public) (s : Select) → select_is_known p (scope_of p s.sources) s ≡ true → queries.select_fits p (scope_of p s.sources) s ≡ true
    → query_fits p (bound_select p (scope_of p s.sources) s) ≡ true
query_is_fitting p s known fitting =
    let scope = scope_of p s.sources in
    let tree = bound_select p scope s in
    let there : are_known p s.sources ≡ true = first_of (are_known p s.sources) _ known in
    let parts = fitting_parts (are_distinct (map (λ (x : Source). x.alias) s.sources)) (items_stand scope s.group s.items) (counts_stand p s)
    (kinds.select_fits (kinds_in scope) tree) fitting in
    let terms : kinds.select_fits (source_kinds p tree.sources) tree ≡ true =
    subst (λ (k : List (List ValueKind)). kinds.select_fits k tree ≡ true) (kinds_are_sources p s.sources there) parts.2 in
    both_of (list_all (source_fits p) tree.sources) _ (sources_stand p s.sources there)
    (both_of (kinds.select_fits (source_kinds p tree.sources) tree) _ terms
    (both_of (forms.items_stand tree.group tree.items) (counts_fit p tree)
    (items_stand_bound scope s.group s.items parts.0) (counts_fit_bound p scope s there parts.1)))

-- ---- views

over_table : (o : Option Relation) → is_some o ≡ true → is_view_of o ≡ false → is_of_table (relation_or o) ≡ true
over_table None h k = grind (arith)
over_table (Some (relation.Table t)) h k = refl
over_table (Some (relation.View v)) h k = grind (arith)

pub are_over_tables : (p : Public) (sources : List Source) → are_known p sources ≡ true → list_any (λ (x : Source). is_view p x.name) sources ≡ false
    → list_all is_over_table (map (bound_source p) sources) ≡ true
are_over_tables p [] h k = refl
are_over_tables p (s ∷ sources) h k = grind (arith, nat_tests, are_over_tables p sources, over_table (relation_named p s.name))

-- ---- as many names as items

all_given : (names : List (Option (List ℕ))) → list_all is_given names ≡ true → length (given names) ≡ length names
all_given [] h = refl
all_given (None ∷ names) h = grind (arith)
all_given (Some n ∷ names) h = grind (arith, nat_tests, all_given names)

length-columns_from : (n j : ℕ) (columns : List Column) → length (columns_from n j columns) ≡ length columns
length-columns_from n j [] = refl
length-columns_from n j (c ∷ columns) = grind (arith, length-columns_from n (j + 1) columns)

length-all_from : (n : ℕ) (scope : Scope) → length (all_from n scope) ≡ length (all_names scope)
length-all_from n [] = refl
length-all_from n (s ∷ scope) =
    let names = map (λ (c : Column). c.name) s.columns in
    let first : length (columns_from n 0 s.columns) ≡ length names = length-columns_from n 0 s.columns ∙ sym (length-map s.columns (λ (c : Column). c.name)) in
    let left : length (all_from n (s ∷ scope)) ≡ length (columns_from n 0 s.columns) + length (all_from (n + 1) scope) =
    length-append (columns_from n 0 s.columns) (all_from (n + 1) scope) in
    let right : length (all_names (s ∷ scope)) ≡ length names + length (all_names scope) = length-append names (all_names scope) in
    grind (arith, length-all_from (n + 1) scope)

item_lengths : (scope : Scope) (x : Item) → length (output_names scope x) ≡ length (bound_item scope x)
item_lengths scope i.All = length-map (all_names scope) Some ∙ sym (length-all_from 0 scope) ∙ sym (length-map (all_from 0 scope) (λ c. bi.Expr (be.Column c)))
item_lengths scope (i.Expr x name) = refl
item_lengths scope (i.LabelOf source name) = refl
item_lengths scope (i.CountAll name) = refl
item_lengths scope (i.Sum c name) = refl
item_lengths scope (i.Min c name) = refl
item_lengths scope (i.Max c name) = refl

items_lengths : (scope : Scope) (items : List Item) → length (flat_map (output_names scope) items) ≡ length (flat_map (bound_item scope) items)
items_lengths scope [] = refl
items_lengths scope (x ∷ items) =
    let left : length (flat_map (output_names scope) (x ∷ items)) ≡ length (output_names scope x) + length (flat_map (output_names scope) items) =
    length-append (output_names scope x) _ in
    let right : length (flat_map (bound_item scope) (x ∷ items)) ≡ length (bound_item scope x) + length (flat_map (bound_item scope) items) =
    length-append (bound_item scope x) _ in
    grind (arith, items_lengths scope items, item_lengths scope x)

pub named_items : (scope : Scope) (s : Select) → names_fit (output scope s) ≡ true
    → length (given (output scope s)) ≡ length (flat_map (bound_item scope) s.items)
named_items scope s h = all_given (output scope s) (grind (arith, nat_tests)) ∙ items_lengths scope s.items
