use Rattle.ifdb_laws.proofs.Bridge.{heard_alike_scripts}
use Rattle.ifdb_laws.proofs.worlds.two_scripts.Goals as goal

pub returns : goal.returns
returns c = heard_alike_scripts
