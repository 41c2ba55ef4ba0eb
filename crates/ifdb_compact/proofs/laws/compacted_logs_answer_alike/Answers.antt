use Rattle.ifdb_compact.proofs.Restoring.{answer_alike}
use Rattle.ifdb_compact.proofs.laws.compacted_logs_answer_alike.Goals as goal

pub returns : goal.returns
returns c = answer_alike c.same_logs_answer_alike.ensures
