use Rattle.std.proofs.Common.{length}
use Rattle.ifdb_row.proofs.order.+compare_front.Given as goal

abbrev pub decreases-compare_front : goal.decreases-compare_front
decreases-compare_front l = length l.values.now
