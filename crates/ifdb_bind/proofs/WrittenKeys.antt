-- Which columns an UPDATE writes.
use Rattle.std.proofs.Common.{◌≡◌, refl, sym, ◌||◌, ◌==◌, List, [], ◌∷◌, map}
use Rattle.std.specs.List.{list_any}
use Rattle.ifdb_value.specs.declared.column.Column.{Column}
use Rattle.ifdb_syntax.specs.declared.request.Assignment.{Assignment}
use Rattle.ifdb_bound.specs.declared.schema.Schema.{Schema}
use Rattle.ifdb_catalog.specs.Scope.{Scope}
use Rattle.ifdb_catalog.specs.Statements.{assigns_key, bound_assignment, place_at}
use Rattle.ifdb_bind.specs.Written.{is_of_key}

-- the columns that are written are of the key where those that are named are
pub keys_are_written : (t : Schema) (columns : List Column) (scope : Scope) (assignments : List Assignment) → t.columns ≡ columns
    → list_any (is_of_key t.key) (map (bound_assignment columns scope) assignments) ≡ list_any (assigns_key t) assignments
keys_are_written t columns scope [] h = refl
keys_are_written t columns scope (a ∷ assignments) h =
    λ j. list_any (λ place. place == place_at (sym h j) a.column) t.key || keys_are_written t columns scope assignments h j
