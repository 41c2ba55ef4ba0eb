-- Numbers and places that names stand for.
use Rattle.std.proofs.Common.{◌≡◌, refl, ℕ, Bool, true, false, List, [], ◌∷◌, length, Option, Some, None, cond, arith}
use Rattle.std.specs.Prelude.{nat_lt, position, bytes_eq}
use Rattle.std.specs.Option.{is_some}
use Rattle.std.specs.List.{position_or_len}
use Rattle.std.proofs.lemmas.Bool.Decides.{nat_tests}
use Rattle.ifdb_label.specs.Tags.{are_made}
use Rattle.ifdb_label.specs.Label.{is_rising}
use Rattle.ifdb_label.proofs.LabelLaws.{reduce_all, reduce_is_rising}
use Rattle.ifdb_catalog.specs.Public.{Public, tags_of, table_named, view_named, relation_from, relation_named}
use Rattle.ifdb_bound.specs.declared.select.Relation.{Relation}
use Rattle.ifdb_bound.specs.declared.select.Relation.TheVariants as relation
use Rattle.ifdb_catalog.specs.Queries.{place_or, is_view_of, relation_or}
use Rattle.ifdb_catalog.specs.Statements.{are_tags, tags_named, label_named, table_number}
use Rattle.ifdb_catalog.specs.Fits.{label_fits, is_table, is_relation}

-- what is found is in the list
pub found : {X : Type 0} (p : X → Bool) (xs : List X) → is_some (position p xs) ≡ true → nat_lt (place_or (position p xs)) (length xs) ≡ true
found p xs h = by (nat_lt (position_or_len p xs) (length xs)) refl h where
  by : (b : Bool) → nat_lt (position_or_len p xs) (length xs) ≡ b → is_some (cond b (Some (position_or_len p xs)) None) ≡ true
      → nat_lt (place_or (cond b (Some (position_or_len p xs)) None)) (length xs) ≡ true
  by true e i = e
  by false e i = grind (arith)

-- the numbers of known tags are made
pub tags_are_made : (p : Public) (names : List (List ℕ)) → are_tags p names ≡ true → are_made (length p.tags) (tags_named p names) ≡ true
tags_are_made p [] h = refl
tags_are_made p (n ∷ names) h = grind (arith, nat_tests, tags_are_made p names, found (λ x. bytes_eq x.name n) p.tags)

-- the label of known tags fits
pub label_is_made : (p : Public) (names : List (List ℕ)) → are_tags p names ≡ true → label_fits p (label_named p names) ≡ true
label_is_made p names h =
    let made : are_made (length p.tags) (label_named p names) ≡ true =
    reduce_all (tags_of p) (λ t. nat_lt t (length p.tags)) (tags_named p names) (tags_are_made p names h) in
    let rises : is_rising (label_named p names) ≡ true = reduce_is_rising (tags_of p) (tags_named p names) in
    grind (arith, nat_tests)

-- ---- tables and views

-- what a name stands for
pub is_the_relation : (o : Option Relation) → is_some o ≡ true → o ≡ Some (relation_or o)
is_the_relation None h = grind (arith)
is_the_relation (Some r) h = refl

-- what is no view and stands for something is a table
pub is_table_named : (p : Public) (name : List ℕ) → is_some (relation_named p name) ≡ true → is_view_of (relation_named p name) ≡ false
    → is_some (table_named p name) ≡ true
is_table_named p name h i = by (table_named p name) (view_named p name) h i where
  by : (t v : Option ℕ) → is_some (relation_from t v) ≡ true → is_view_of (relation_from t v) ≡ false → is_some t ≡ true
  by None None h i = h
  by None (Some v) h i = grind (arith)
  by (Some t) v h i = refl

-- the table that a name stands for
pub table_is_named : (p : Public) (name : List ℕ) → is_some (table_named p name) ≡ true
    → relation_named p name ≡ Some (relation.Table (table_number p name))
table_is_named p name h = by (table_named p name) h where
  by : (t : Option ℕ) → is_some t ≡ true → relation_from t (view_named p name) ≡ Some (relation.Table (place_or t))
  by None h = grind (arith)
  by (Some t) h = refl

-- the number of a table that a name stands for
pub table_stands : (p : Public) (name : List ℕ) → is_some (table_named p name) ≡ true → is_table p (table_number p name) ≡ true
table_stands p name h = found (λ x. bytes_eq x.name name) p.tables h

-- what a name stands for stands
pub relation_stands : (p : Public) (name : List ℕ) → is_some (relation_named p name) ≡ true → is_relation p (relation_or (relation_named p name)) ≡ true
relation_stands p name h = by (table_named p name) (view_named p name) h (found _ p.tables) (found _ p.views) where
  by : (t v : Option ℕ) → is_some (relation_from t v) ≡ true
      → (is_some t ≡ true → nat_lt (place_or t) (length p.tables) ≡ true)
      → (is_some v ≡ true → nat_lt (place_or v) (length p.views) ≡ true)
      → is_relation p (relation_or (relation_from t v)) ≡ true
  by None None h i j = grind (arith)
  by None (Some v) h i j = j refl
  by (Some t) v h i j = i refl
