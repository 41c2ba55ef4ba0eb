use Rattle.ifdb_laws.proofs.two_worlds.Runs.{inside_is_alike}
use Rattle.ifdb_laws.proofs.worlds.inside_step.Goals as goal

pub returns : goal.returns
returns c = inside_is_alike
