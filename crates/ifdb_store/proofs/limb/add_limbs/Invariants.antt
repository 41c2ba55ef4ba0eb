use Rattle.std.proofs.Common.{◌≡◌, ◌++◌}
use Rattle.ifdb_store.proofs.limb.add_limbs.Given as goal

abbrev pub invariant-loop-node : goal.invariant-loop-node
invariant-loop-node l = record {
  rest : l.yielded ++ l.node-iterator.rest.items ≡ l.fn.nodes.items;
  limbs : l.out.items ≡ l.fn.out.items ++ l.yielded;
}
