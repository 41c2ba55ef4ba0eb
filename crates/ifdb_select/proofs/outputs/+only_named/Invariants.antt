use Rattle.std.proofs.Common.{length}
use Rattle.ifdb_select.proofs.outputs.+only_named.Given as goal

abbrev pub decreases-only_named : goal.decreases-only_named
decreases-only_named l = length l.names.now
