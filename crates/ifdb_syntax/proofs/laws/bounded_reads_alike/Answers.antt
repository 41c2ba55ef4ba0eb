use Rattle.ifdb_syntax.proofs.BoundedReading.{numbers_read_alike, operators_read_alike}
use Rattle.ifdb_syntax.proofs.laws.bounded_reads_alike.Goals as goal

pub returns-clause-numbers : goal.returns-clause-numbers
returns-clause-numbers c = numbers_read_alike

pub returns-clause-operators : goal.returns-clause-operators
returns-clause-operators c = operators_read_alike
