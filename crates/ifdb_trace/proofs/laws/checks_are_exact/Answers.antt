use Rattle.ifdb_trace.proofs.Exact.{checks_are_exact, faults_are_exact, faults_stay}
use Rattle.ifdb_trace.proofs.Ways.{ways_are_part}
use Rattle.ifdb_trace.proofs.laws.checks_are_exact.Goals as goal

pub returns-clause-exact : goal.returns-clause-exact
returns-clause-exact c = checks_are_exact

pub returns-clause-faults : goal.returns-clause-faults
returns-clause-faults c = faults_are_exact

pub returns-clause-front : goal.returns-clause-front
returns-clause-front c = faults_stay

pub returns-clause-ways : goal.returns-clause-ways
returns-clause-ways c = ways_are_part c.memory_is_never_told.ensures.lines
