use Rattle.ifdb_closure.proofs.Worlds.{closures_alone, closures_two_worlds}
use Rattle.ifdb_closure.proofs.laws.two_worlds.Goals as goal

pub returns-clause-alone : goal.returns-clause-alone
returns-clause-alone c = closures_alone

pub returns-clause-two : goal.returns-clause-two
returns-clause-two c = closures_two_worlds
