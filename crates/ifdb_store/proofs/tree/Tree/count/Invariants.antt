use Rattle.std.proofs.Common.{◌≡◌, length, take}
use Rattle.ifdb_store.specs.Pages.{rows_of}
use Rattle.ifdb_store.proofs.tree.Tree.count.Given as goal

abbrev pub invariant-loop-limb : goal.invariant-loop-limb
invariant-loop-limb l = l.count ≡ length (rows_of (take l.limb-index l.limbs))
