use Rattle.ifdb_closure.proofs.ReadingBack.{lines_read_back, hellos_read_back}
use Rattle.ifdb_closure.proofs.Worlds.{closures_two_worlds}
use Rattle.ifdb_closure.proofs.laws.lines_are_read_back.Goals as goal

pub returns-clause-back : goal.returns-clause-back
returns-clause-back c = lines_read_back

pub returns-clause-hellos : goal.returns-clause-hellos
returns-clause-hellos c = hellos_read_back

pub returns-clause-two : goal.returns-clause-two
returns-clause-two c = λ form level xs ys. closures_two_worlds _ lines_read_back level xs ys
