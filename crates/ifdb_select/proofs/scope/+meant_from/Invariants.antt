use Rattle.std.proofs.Common.{length}
use Rattle.ifdb_select.proofs.scope.+meant_from.Given as goal

abbrev pub decreases-meant_from : goal.decreases-meant_from
decreases-meant_from l = length l.scope.now
