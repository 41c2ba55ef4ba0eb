use Rattle.ifdb_laws.proofs.two_worlds.Runs.{heard_alike}
use Rattle.ifdb_laws.proofs.worlds.two_worlds.Goals as goal

pub returns : goal.returns
returns c = heard_alike
