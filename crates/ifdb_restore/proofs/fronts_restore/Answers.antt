use Rattle.ifdb_restore.proofs.Fronting.{fronts_lem}
use Rattle.ifdb_restore.proofs.fronts_restore.Goals as goal

pub returns : goal.returns
returns c = fronts_lem
