use Rattle.std.proofs.Common.{length}
use Rattle.ifdb_bind.proofs.tables.+same_kinds.Given as goal

abbrev pub decreases-same_kinds : goal.decreases-same_kinds
decreases-same_kinds l = length l.places.now
