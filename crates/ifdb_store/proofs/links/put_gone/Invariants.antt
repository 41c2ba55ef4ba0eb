use Rattle.ifdb_store.specs.Links.{LeavesOthers}
use Rattle.ifdb_store.proofs.links.put_gone.Given as goal

abbrev pub invariant-loop-parent : goal.invariant-loop-parent
invariant-loop-parent l = LeavesOthers l.child l.writes
