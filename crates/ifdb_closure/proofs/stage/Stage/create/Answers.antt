use Rattle.std.proofs.Common.{sym, subst}
use Rattle.ifdb_model.specs.Run.{asks}
use Rattle.ifdb_closure.specs.Standing.{Turned}
use Rattle.ifdb_closure.proofs.Turns.{unentered_turned}
use Rattle.ifdb_closure.proofs.stage.Stage.create.Goals as goal

pub returns-in-Err : goal.returns-in-Err
returns-in-Err c = λ line form w s.
    subst (Turned c.enter.new.self w (asks c.args.n line)) (sym c.refuse.ensures)
    (unentered_turned c.args.self.now c.enter.new.self c.args.n line c.args.name c.args.statements c.in-Err.fault form w (c.in-Err.ensures w s))
