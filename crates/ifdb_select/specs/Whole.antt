-- What a SELECT names, said of whole lists.
use Rattle.std.specs.Prelude.{ℕ, Bool, List, Option, map, flat_map}
use Rattle.std.specs.List.{list_all}
use Rattle.ifdb_value.specs.declared.column.Column.{Column}
use Rattle.ifdb_syntax.specs.declared.select.Item.{Item}
use Rattle.ifdb_syntax.specs.declared.select.Order.{Order}
use Rattle.ifdb_syntax.specs.declared.select.Source.{Source}
use Rattle.ifdb_bound.specs.declared.select.OrderKey.{OrderKey}
use Rattle.ifdb_catalog.specs.Public.{Public}
use Rattle.ifdb_catalog.specs.Scope.{Scope, ScopeSource}
use Rattle.ifdb_catalog.specs.Queries.{bound_order, is_known_order, is_relation, output_names}

-- a source that is spoken of by an alias
abbrev pub source_called : List ℕ → List Column → ScopeSource
source_called alias columns = record { alias = alias; columns = columns }

-- each source is a table or view
abbrev pub are_relations : Public → List Source → Bool
are_relations p sources = list_all (λ (x : Source). is_relation p x.name) sources

-- the items' output names, in order
abbrev pub outputs : Scope → List Item → List (Option (List ℕ))
outputs scope items = flat_map (output_names scope) items

-- each key of ORDER BY is an item
abbrev pub are_known_orders : Scope → List Item → List Order → Bool
are_known_orders scope items orders = list_all (is_known_order (outputs scope items)) orders

-- the keys of ORDER BY with the places of their items
abbrev pub order_keys : Scope → List Item → List Order → List OrderKey
order_keys scope items orders = map (bound_order (outputs scope items)) orders
