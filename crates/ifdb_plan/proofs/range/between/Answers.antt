use Rattle.ifdb_plan.proofs.Ranging.{between_is}
use Rattle.ifdb_plan.proofs.range.between.Goals as goal

pub returns : goal.returns
returns c = between_is c.args.front.now c.args.ends.now _ c.in_ok-cut_at.ensures c.in_ok-cut_at-2.ensures
