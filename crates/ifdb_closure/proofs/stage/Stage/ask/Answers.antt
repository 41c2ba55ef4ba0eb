use Rattle.ifdb_closure.proofs.Turns.{lacking_does}
use Rattle.ifdb_closure.proofs.stage.Stage.ask.Goals as goal

pub returns-in-Err : goal.returns-in-Err
returns-in-Err c = lacking_does c.args.self.now c.args.n c.args.line.now c.refuse.new.out.text c.refuse.ensures
