use Rattle.std.proofs.Common.{◌≤◌, length, subst}
use Rattle.ifdb_row.specs.Runs.{rows_in}
use Rattle.ifdb_row.proofs.run.Run.from.Goals as goal

pub from-requires : goal.from-requires
from-requires c = subst (λ r. c.args.count ≤ length (rows_in r)) c.in-Even.is c.requires
