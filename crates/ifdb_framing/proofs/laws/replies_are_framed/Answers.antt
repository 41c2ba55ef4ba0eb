use Rattle.ifdb_framing.proofs.Runs.{steps_are_framed, replies_are_framed as replies_lem}
use Rattle.ifdb_framing.proofs.laws.replies_are_framed.Goals as goal

pub returns-clause-steps : goal.returns-clause-steps
returns-clause-steps c = steps_are_framed

pub returns-clause-scripts : goal.returns-clause-scripts
returns-clause-scripts c = replies_lem
