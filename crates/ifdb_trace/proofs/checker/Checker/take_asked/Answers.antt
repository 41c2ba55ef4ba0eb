use Rattle.std.proofs.Common.{subst}
use Rattle.ifdb_model.specs.Run.{State}
use Rattle.ifdb_model.specs.Script.{line_step}
use Rattle.ifdb_db.specs.Reading.{read_line}
use Rattle.ifdb_db.specs.Room.{StandsFor}
use Rattle.ifdb_trace.specs.Checking.{dues}
use Rattle.ifdb_trace.specs.Stages.{IsAt, IsEnd}
use Rattle.ifdb_trace.proofs.Standing.{asked_on, asked_wrong}
use Rattle.ifdb_trace.proofs.checker.Checker.take_asked.Goals as goal

pub returns-then-not-may_end-clause-wrong : goal.returns-then-not-may_end-clause-wrong
returns-then-not-may_end-clause-wrong c = λ _.
    asked_wrong c.args.self.now c.args.text.now c.requires
    (λ all at. subst (λ b. IsEnd b all) c.if-not-may_end.true (c.may_end.ensures.end all at))

pub returns-clause-on : goal.returns-clause-on
returns-clause-on c =
    asked_on c.args.self.now c.begin.new.self c.args.text.now c.requires
    (c.may_end.ensures.telling c.if-not-may_end.false) (c.may_end.ensures.told c.if-not-may_end.false)
    (subst (λ s. (st : State) → StandsFor c.args.self.now.room st → IsAt c.begin.new.self (dues read_line st (line_step s))) c.step_line.ensures.step c.in_ok-begin.ensures)
