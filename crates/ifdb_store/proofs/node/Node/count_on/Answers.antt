use Rattle.std.proofs.Common.{arith}
use Rattle.std.proofs.lemmas.Grind.{common_steps}
use Rattle.std.proofs.lemmas.List.Folds.{length-flat_map-take}
use Rattle.ifdb_store.proofs.node.Node.count_on.Goals as goal

pub returns-in_err-count-clause-none : goal.returns-in_err-count-clause-none
returns-in_err-count-clause-none g c = λ _.
    let more = length-flat_map-take g.P.Placed.rows c.parts-parts.result.now c.loop-part.part-index c.part-item.result c.loop-part-test.true in
    grind (arith, common_steps, more)
