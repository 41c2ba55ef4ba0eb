use Rattle.ifdb_laws.proofs.Refusals.{refusals_lem, refused_steps_lem, refused_commits_lem, unjudged_commits_lem}
use Rattle.ifdb_laws.proofs.line_laws.refusals_change_nothing.Goals as goal

pub returns-clause-lines : goal.returns-clause-lines
returns-clause-lines c = refusals_lem

pub returns-clause-steps : goal.returns-clause-steps
returns-clause-steps c = refused_steps_lem

pub returns-clause-commits : goal.returns-clause-commits
returns-clause-commits c = refused_commits_lem

pub returns-clause-unjudged : goal.returns-clause-unjudged
returns-clause-unjudged c = unjudged_commits_lem
