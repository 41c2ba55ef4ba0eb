use Rattle.std.proofs.Common.{◌≡◌, take, map, true}
use Rattle.std.specs.List.{list_all}
use Rattle.ifdb_catalog.specs.Queries.{bound_order, is_known_order}
use Rattle.ifdb_select.proofs.outputs.bound_orders.Given as goal

-- the keys so far are known, and have their places
abbrev pub invariant-loop-order : goal.invariant-loop-order
invariant-loop-order l = record {
  known : list_all (is_known_order l.names) (take l.order-index l.orders) ≡ true;
  keys : l.keys ≡ map (bound_order l.names) (take l.order-index l.orders);
}
