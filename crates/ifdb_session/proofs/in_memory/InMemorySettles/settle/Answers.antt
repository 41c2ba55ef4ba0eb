use Rattle.std.proofs.Common.{[]}
use Rattle.ifdb_session.proofs.Passes.{sees_itself, away_itself}
use Rattle.ifdb_session.proofs.in_memory.InMemorySettles.settle.Goals as goal

pub returns-clause-sees : goal.returns-clause-sees
returns-clause-sees g c = sees_itself [] c.args._hall.now c.args._pass.now c.requires.pass c.requires.orderly

pub returns-clause-away : goal.returns-clause-away
returns-clause-away g c = away_itself c.args._pass.now
