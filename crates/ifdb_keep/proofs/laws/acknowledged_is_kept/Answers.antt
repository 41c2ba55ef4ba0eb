use Rattle.ifdb_keep.proofs.Acknowledging.{acknowledged}
use Rattle.ifdb_keep.proofs.laws.acknowledged_is_kept.Goals as goal

pub returns : goal.returns
returns c = acknowledged
