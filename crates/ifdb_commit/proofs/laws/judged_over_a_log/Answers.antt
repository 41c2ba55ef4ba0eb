use Rattle.ifdb_commit.proofs.LogLemmas.{judges_a_log}
use Rattle.ifdb_commit.proofs.laws.judged_over_a_log.Goals as goal

pub returns : goal.returns
returns c = judges_a_log
