use Rattle.ifdb_session.proofs.Passes.{away_itself}
use Rattle.ifdb_session.proofs.link.settle_if.Goals as goal

pub returns-in-None-clause-away : goal.returns-in-None-clause-away
returns-in-None-clause-away g c = away_itself c.args.pass.now
