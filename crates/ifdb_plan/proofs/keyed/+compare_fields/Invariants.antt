use Rattle.std.proofs.Common.{length}
use Rattle.ifdb_plan.proofs.keyed.+compare_fields.Given as goal

abbrev pub decreases-compare_fields : goal.decreases-compare_fields
decreases-compare_fields l = length l.key.now
