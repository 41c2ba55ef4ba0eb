use Rattle.std.proofs.Common.{length}
use Rattle.ifdb_select.proofs.queries.+source_named.Given as goal

abbrev pub decreases-source_named : goal.decreases-source_named
decreases-source_named l = length l.scope.now
