use Rattle.std.proofs.Common.{◌≡◌, take, true}
use Rattle.std.specs.Prelude.{flat_map}
use Rattle.std.specs.List.{list_all}
use Rattle.ifdb_catalog.specs.Queries.{bound_item, is_known_item}
use Rattle.ifdb_select.proofs.queries.bound_items.Given as goal

-- the items so far are known, and have their trees
abbrev pub invariant-loop-item : goal.invariant-loop-item
invariant-loop-item l = record {
  known : list_all (is_known_item l.scope) (take l.item-index l.items) ≡ true;
  trees : l.trees ≡ flat_map (bound_item l.scope) (take l.item-index l.items);
}
