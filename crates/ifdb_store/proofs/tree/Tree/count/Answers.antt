use Rattle.std.proofs.Common.{◌≤◌, ◌^◌, length, subst, arith}
use Rattle.std.proofs.lemmas.Grind.{common_steps}
use Rattle.std.proofs.lemmas.List.Folds.{length-flat_map-take}
use Rattle.ifdb_store.specs.Pages.{limb_rows, rows_of}
use Rattle.ifdb_store.proofs.tree.Tree.count.Goals as goal

pub returns-in_err-count-clause-none : goal.returns-in_err-count-clause-none
returns-in_err-count-clause-none c = λ _.
    let limbs = c.limbs-limbs.result.now in
    let more = length-flat_map-take limb_rows limbs c.loop-limb.limb-index c.limb-item.result c.loop-limb-test.true in
    let all : 2 ^ 64 ≤ length (rows_of limbs) = grind (arith, common_steps, more) in
    subst (λ rows. 2 ^ 64 ≤ length rows) c.limbs-limbs.ensures.rows all
