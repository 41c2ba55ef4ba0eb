use Rattle.std.proofs.Common.{◌≡◌, ◌≤◌, ◌<◌, ◌-◌, true, length, take}
use Rattle.std.specs.List.{flat_map, list_all}
use Rattle.ifdb_store.specs.Pages.{are_nodes, in_nodes, is_full_node}
use Rattle.ifdb_store.proofs.node.several_nodes.Given as goal

abbrev pub invariant-loop-from : goal.invariant-loop-from
invariant-loop-from g l = record {
  within : l.from ≤ length l.parts;
  rows : in_nodes g.P.Placed.rows l.nodes.items ≡ flat_map g.P.Placed.rows (take l.from l.parts);
  nodes : are_nodes g.P.Placed.rows g.P.Part.is_part g.P.Part.is_full l.nodes.items ≡ true;
  left : l.from < length l.parts → 16 ≤ length l.parts - l.from;
  full : list_all is_full_node l.nodes.items ≡ true;
}

abbrev pub decreases-loop-from : goal.decreases-loop-from
decreases-loop-from g l = l.len - l.from
