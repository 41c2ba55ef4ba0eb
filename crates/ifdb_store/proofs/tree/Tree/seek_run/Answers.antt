use Rattle.std.proofs.Common.{◌≤◌, ◌+◌, ◌*◌, ◌-◌, ◌^◌, length, subst}
use Rattle.ifdb_store.proofs.Bounds.{tree_bounds}
use Rattle.ifdb_store.proofs.tree.Tree.seek_run.Goals as goal

pub returns-clause-cost : goal.returns-clause-cost
returns-clause-cost g c =
    let cost = 2 ^ (c.run_from.new.steps - c.args.steps.now) in
    let limbs = c.limbs-limbs.ensures in
    subst (λ rows. cost ≤ 4 * (length rows + 1) ^ 2) limbs.rows (tree_bounds c.limbs-limbs.result.now cost limbs.full limbs.good c.run_from.ensures.cost)
