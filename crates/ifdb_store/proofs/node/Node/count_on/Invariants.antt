use Rattle.std.proofs.Common.{◌≡◌, ◌+◌, length, take}
use Rattle.std.specs.List.{flat_map}
use Rattle.ifdb_store.proofs.node.Node.count_on.Given as goal

abbrev pub invariant-loop-part : goal.invariant-loop-part
invariant-loop-part g l = l.count ≡ l.fn.before + length (flat_map g.P.Placed.rows (take l.part-index l.parts))
