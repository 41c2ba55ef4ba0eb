use Rattle.std.proofs.Common.{take}
use Rattle.ifdb_store.specs.Links.{BringsLinks, LeavesOthers}
use Rattle.ifdb_store.proofs.links.put_links.Given as goal

abbrev pub invariant-loop-parent : goal.invariant-loop-parent
invariant-loop-parent l = record {
  others : LeavesOthers l.child l.writes;
  links : BringsLinks l.child (take l.parent-index l.parents) l.writes;
}
