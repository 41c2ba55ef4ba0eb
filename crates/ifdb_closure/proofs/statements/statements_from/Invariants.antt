use Rattle.ifdb_closure.proofs.Parting.{Parting}
use Rattle.ifdb_closure.proofs.statements.statements_from.Given as goal

abbrev pub invariant-loop-token : goal.invariant-loop-token
invariant-loop-token l = Parting l.line l.at l.tokens l.statements l.from l.token-index
