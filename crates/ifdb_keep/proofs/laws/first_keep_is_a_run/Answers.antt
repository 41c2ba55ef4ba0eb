use Rattle.ifdb_keep.proofs.Numbers.{first_keep}
use Rattle.ifdb_keep.proofs.laws.first_keep_is_a_run.Goals as goal

pub returns : goal.returns
returns c = first_keep
