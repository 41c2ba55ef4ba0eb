use Rattle.std.proofs.Common.{length}
use Rattle.ifdb_group.proofs.order.+compare.Given as goal

abbrev pub decreases-compare : goal.decreases-compare
decreases-compare l = length l.keys.now
