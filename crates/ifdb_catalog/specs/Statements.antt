-- decides: names and refusals
-- INSERT, UPDATE and DELETE: what they may name, which of their forms fit, and their bound trees.
use Rattle.std.specs.Prelude.{ℕ, Bool, true, false, not, ◌&&◌, ◌==◌, List, [], ◌∷◌, map, length, slice_get, position, bytes_eq, Option, Some, None}
use Rattle.std.specs.Option.{is_some}
use Rattle.std.specs.List.{list_all, list_any}
use Rattle.ifdb_value.specs.Value.{kind_of, is_null}
use Rattle.ifdb_value.specs.declared.value.Value.{Value}
use Rattle.ifdb_value.specs.declared.value.ValueKind.{ValueKind}
use Rattle.ifdb_value.specs.declared.column.Column.{Column}
use Rattle.ifdb_label.specs.Label.{reduce}
use Rattle.ifdb_syntax.specs.declared.request.Assignment.{Assignment}
use Rattle.ifdb_bound.specs.Expressions.{value_at}
use Rattle.ifdb_bound.specs.Kinds.{takes, accepts, expr_kind}
use Rattle.ifdb_bound.specs.declared.request.BoundAssignment.{BoundAssignment}
use Rattle.ifdb_bound.specs.declared.schema.Schema.{Schema}
use Rattle.ifdb_catalog.specs.Public.{Public, tags_of, tag_named, relation_named, table_named, table_at}
use Rattle.ifdb_catalog.specs.Scope.{Scope, kinds_of, kinds_in, relation_columns}
use Rattle.ifdb_catalog.specs.Terms.{is_known, bound_expr}
use Rattle.ifdb_catalog.specs.Queries.{times, are_distinct, place_or}

-- ---- tags by their names

-- the name is that of a tag
abbrev pub is_tag : Public → List ℕ → Bool
is_tag p name = is_some (tag_named p name)

-- each name is that of a tag
abbrev pub are_tags : Public → List (List ℕ) → Bool
are_tags p names = list_all (is_tag p) names

-- the number of a tag that is known to be one
abbrev pub tag_at : Public → List ℕ → ℕ
tag_at p name = place_or (tag_named p name)

-- the tags of the names, in order
abbrev pub tags_named : Public → List (List ℕ) → List ℕ
tags_named p names = map (tag_at p) names

-- the reduction of the tags of the names
abbrev pub label_named : Public → List (List ℕ) → List ℕ
label_named p names = reduce (tags_of p) (tags_named p names)

-- a clearance's names, if there is one, are those of tags
abbrev pub is_clearance : Public → Option (List (List ℕ)) → Bool
is_clearance p None = true
is_clearance p (Some names) = are_tags p names

-- the clearance of these names
abbrev pub clearance_named : Public → Option (List (List ℕ)) → Option (List ℕ)
clearance_named p None = None
clearance_named p (Some names) = Some (label_named p names)

-- ---- a table and its columns by their names

-- the number of a table that is known to be one
abbrev pub table_number : Public → List ℕ → ℕ
table_number p name = place_or (table_named p name)

-- the table of a name that is known to be one's
abbrev pub schema_named : Public → List ℕ → Schema
schema_named p name = table_at p (table_number p name)

-- the columns of the table or view of a name
abbrev pub columns_named : Public → List ℕ → List Column
columns_named p name = relation_columns p (relation_named p name)

-- the place of the column of a name
abbrev pub place_named : List Column → List ℕ → Option ℕ
place_named columns name = position (λ (c : Column). bytes_eq c.name name) columns

-- the name is that of one of the columns
abbrev pub is_column_of : List Column → List ℕ → Bool
is_column_of columns name = is_some (place_named columns name)

-- the place of a column that is known to be one
abbrev pub place_at : List Column → List ℕ → ℕ
place_at columns name = place_or (place_named columns name)

-- ---- INSERT

-- where columns are listed, each one is so exactly once
abbrev pub are_listed : List Column → List (List ℕ) → Bool
are_listed columns [] = true
are_listed columns (n ∷ names) = list_all (λ (c : Column). times c.name (n ∷ names) == 1) columns

-- how many values a row gives: one for each listed column, or for each column where none is listed
abbrev pub wanted : List Column → List (List ℕ) → ℕ
wanted columns [] = length columns
wanted columns (n ∷ names) = length (n ∷ names)

-- the place of a name in a list of names
abbrev pub listed_at : List (List ℕ) → List ℕ → ℕ
listed_at names name = place_or (position (λ n. bytes_eq n name) names)

-- a row in the table's order of columns
abbrev pub arranged : List Column → List (List ℕ) → List Value → List Value
arranged columns [] row = row
arranged columns (n ∷ names) row = map (λ (c : Column). value_at row (listed_at (n ∷ names) c.name)) columns

-- a value for each column, which takes it: NULL, or one of its kind
abbrev pub values_fit : List ValueKind → List Value → Bool
values_fit [] [] = true
values_fit (k ∷ kinds) (v ∷ values) = takes k (kind_of v) && values_fit kinds values
values_fit _ _ = false

-- the values at some places
abbrev pub values_at : List Value → List ℕ → List Value
values_at values places = map (value_at values) places

-- none of the values is NULL
abbrev pub are_given : List Value → Bool
are_given values = list_all (λ v. not (is_null v)) values

-- the values fill a row of the table: each column takes its one, and none of the primary key is NULL
abbrev pub fills : Schema → List Value → Bool
fills t values = values_fit (kinds_of t.columns) values && are_given (values_at values t.key)

-- a row has as many values as are wanted, and fills one of the table
abbrev pub row_fits : Schema → List (List ℕ) → List Value → Bool
row_fits t names row = (length row == wanted t.columns names) && fills t (arranged t.columns names row)

-- ---- UPDATE

-- the column and each column of the expression are known
abbrev pub is_known_assignment : List Column → Scope → Assignment → Bool
is_known_assignment columns scope a = is_column_of columns a.column && is_known scope a.expr

-- a column of the primary key is assigned
abbrev pub assigns_key : Schema → Assignment → Bool
assigns_key t a = list_any (λ place. place == place_at t.columns a.column) t.key

-- an assignment with places for its columns
abbrev pub bound_assignment : List Column → Scope → Assignment → BoundAssignment
bound_assignment columns scope a = record { column = place_at columns a.column; expr = bound_expr scope a.expr }

-- the column takes what the expression gives
abbrev pub assignment_fits : List Column → List (List ValueKind) → BoundAssignment → Bool
assignment_fits columns kinds a = accepts (slice_get (kinds_of columns) a.column) (expr_kind kinds a.expr)

-- no column is assigned twice, and each takes what it is given
abbrev pub assignments_fit : List Column → Scope → List Assignment → Bool
assignments_fit columns scope assignments =
    are_distinct (map (λ (a : Assignment). a.column) assignments)
    && list_all (assignment_fits columns (kinds_in scope)) (map (bound_assignment columns scope) assignments)
