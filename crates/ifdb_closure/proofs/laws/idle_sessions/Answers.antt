use Rattle.ifdb_closure.proofs.Thinning.{others_are_not_seen, idle_sessions_are_not_seen}
use Rattle.ifdb_closure.proofs.laws.idle_sessions.Goals as goal

pub returns-clause-others : goal.returns-clause-others
returns-clause-others c = others_are_not_seen

pub returns-clause-idle : goal.returns-clause-idle
returns-clause-idle c = idle_sessions_are_not_seen
