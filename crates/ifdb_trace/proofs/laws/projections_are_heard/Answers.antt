use Rattle.ifdb_trace.proofs.Projecting.{steps_are_low, projection_is_heard}
use Rattle.ifdb_trace.proofs.laws.projections_are_heard.Goals as goal

pub returns-clause-steps : goal.returns-clause-steps
returns-clause-steps c = steps_are_low

pub returns-clause-heard : goal.returns-clause-heard
returns-clause-heard c = projection_is_heard c.inside_alone.ensures.heard
