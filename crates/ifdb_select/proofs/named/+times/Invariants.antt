use Rattle.std.proofs.Common.{length}
use Rattle.ifdb_select.proofs.named.+times.Given as goal

abbrev pub decreases-times : goal.decreases-times
decreases-times g l = length l.things.now
