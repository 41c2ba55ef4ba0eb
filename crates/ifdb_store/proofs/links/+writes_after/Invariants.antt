use Rattle.std.proofs.Common.{length}
use Rattle.ifdb_store.proofs.links.+writes_after.Given as goal

abbrev pub decreases-writes_after : goal.decreases-writes_after
decreases-writes_after l = length l.writes.now
