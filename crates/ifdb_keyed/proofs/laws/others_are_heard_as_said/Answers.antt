use Rattle.ifdb_keyed.proofs.Keys.{others_as_said}
use Rattle.ifdb_keyed.proofs.laws.others_are_heard_as_said.Goals as goal

pub returns : goal.returns
returns c = others_as_said
