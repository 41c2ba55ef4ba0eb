use Rattle.ifdb_laws.proofs.two_worlds.Runs.{outside_leaves_part}
use Rattle.ifdb_laws.proofs.worlds.outside_step.Goals as goal

pub returns : goal.returns
returns c = outside_leaves_part
