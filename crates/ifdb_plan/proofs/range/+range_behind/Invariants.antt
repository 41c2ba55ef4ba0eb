use Rattle.std.proofs.Common.{length}
use Rattle.ifdb_plan.proofs.range.+range_behind.Given as goal

abbrev pub decreases-range_behind : goal.decreases-range_behind
decreases-range_behind l = length l.key.now
