use Rattle.ifdb_restore.proofs.Parents.{spared_lem}
use Rattle.ifdb_restore.proofs.parents_are_spared.Goals as goal

pub returns : goal.returns
returns c = spared_lem
