use Rattle.std.proofs.Common.{◌≤◌, length, subst}
use Rattle.ifdb_row.specs.Runs.{rows_in}
use Rattle.ifdb_row.proofs.run.Run.front.Goals as goal

pub front-requires : goal.front-requires
front-requires c = subst (λ r. c.args.count ≤ length (rows_in r)) c.in-Even.is c.requires
