use Rattle.ifdb_authority.proofs.Chains.{steps_suffice_lem}
use Rattle.ifdb_authority.proofs.laws.steps_suffice.Goals as goal

pub returns : goal.returns
returns c = steps_suffice_lem
