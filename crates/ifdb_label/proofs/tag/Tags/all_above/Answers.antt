use Rattle.std.proofs.Common.{arith}
use Rattle.ifdb_label.proofs.AncestorLemmas.{above_more}
use Rattle.ifdb_label.proofs.tag.Tags.all_above.Goals as goal

pub loop-parent-preserved : goal.loop-parent-preserved
loop-parent-preserved c u =
    let more = above_more c.args.self.now c.args.parents.now c.loop-parent.parent-index c.parent-item.result c.loop-parent.above.items c.ancestors.result.now c.loop-parent-test.true c.parent-item.is c.loop-parent.invariant c.ancestors.ensures.above u in
    grind (arith, more)
