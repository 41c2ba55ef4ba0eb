use Rattle.ifdb_authority.proofs.Chains.{holds-wider}
use Rattle.ifdb_authority.proofs.laws.more_grants_hold_more.Goals as goal

pub returns : goal.returns
returns c = holds-wider
