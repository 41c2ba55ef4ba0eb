-- Tables whose rows have their keys in the columns that a source names.
use Rattle.std.specs.Prelude.{ℕ, Bool, true, List, ◌==◌, ◌||◌, length}
use Rattle.std.specs.List.{list_all}
use Rattle.ifdb_row.specs.declared.row.Row.{Row}
use Rattle.ifdb_bound.specs.declared.schema.ViewDef.{ViewDef}
use Rattle.ifdb_bound.specs.declared.select.BoundSource.{BoundSource}
use Rattle.ifdb_bound.specs.declared.select.Relation.{Relation}
use Rattle.ifdb_bound.specs.declared.select.Relation.TheVariants as relation
use Rattle.ifdb_plan.specs.Keys.{are_keyed}

-- each row of the table has its key's values in these columns, if there are any
abbrev pub is_relation_keyed : List Row → List ℕ → Relation → Bool
is_relation_keyed rows key (relation.Table t) = (length key == 0) || are_keyed t key rows
is_relation_keyed rows key (relation.View v) = true

-- so for each source with the key that it names
abbrev pub are_sources_keyed : List Row → List BoundSource → Bool
are_sources_keyed rows sources = list_all (λ (x : BoundSource). is_relation_keyed rows x.key x.relation) sources

-- and for each source of each view
abbrev pub are_views_keyed : List Row → List ViewDef → Bool
are_views_keyed rows views = list_all (λ (v : ViewDef). are_sources_keyed rows v.select.sources) views
