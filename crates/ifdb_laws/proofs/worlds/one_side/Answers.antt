use Rattle.ifdb_laws.proofs.two_worlds.OneSide.{quiet_runs_are_one_sided, inside_since_the_start}
use Rattle.ifdb_laws.proofs.worlds.one_side.Goals as goal

pub returns-clause-states : goal.returns-clause-states
returns-clause-states c = quiet_runs_are_one_sided

pub returns-clause-sessions : goal.returns-clause-sessions
returns-clause-sessions c = inside_since_the_start
