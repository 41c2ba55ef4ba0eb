use Rattle.std.proofs.Common.{OnOk, refl, sym, subst}
use Rattle.ifdb_wire.specs.Script.{asked_by}
use Rattle.ifdb_wire.specs.declared.script.StepLine.{StepLine}
use Rattle.ifdb_model.specs.Script.{line_step}
use Rattle.ifdb_keep.specs.Taken.{TookLine}
use Rattle.ifdb_keep.proofs.Taking.{took_stray}
use Rattle.ifdb_keep.proofs.keeper.Keeper.take_step.Goals as goal

pub returns-in-Open-clause-took : goal.returns-in-Open-clause-took
returns-in-Open-clause-took g c =
    let keeper = c.args.self.now in
    let tells = g.D.Disk.tells in
    let new = c.open.new.self in
    subst (λ (l : StepLine). OnOk c.open.result (TookLine keeper.base keeper.room new.room (line_step (asked_by l)) new.out.text (tells c.args.disk.now) keeper.journal.at (tells c.open.new.disk) new.journal.at))
    (sym c.in-Open.is) c.open.ensures.took

pub returns-in-Ask-clause-took : goal.returns-in-Ask-clause-took
returns-in-Ask-clause-took g c =
    let keeper = c.args.self.now in
    let tells = g.D.Disk.tells in
    let new = c.ask.new.self in
    subst (λ (l : StepLine). OnOk c.ask.result (TookLine keeper.base keeper.room new.room (line_step (asked_by l)) new.out.text (tells c.args.disk.now) keeper.journal.at (tells c.ask.new.disk) new.journal.at))
    (sym c.in-Ask.is) c.ask.ensures.took

pub returns-in-Stray-clause-took : goal.returns-in-Stray-clause-took
returns-in-Stray-clause-took g c =
    let keeper = c.args.self.now in
    let tells = g.D.Disk.tells c.args.disk.now in
    subst (λ (l : StepLine). TookLine keeper.base keeper.room keeper.room (line_step (asked_by l)) c.refuse.new.out.text tells keeper.journal.at tells keeper.journal.at)
    (sym c.in-Stray.is) (took_stray keeper.base keeper.room keeper.room c.refuse.new.out.text tells keeper.journal.at refl c.refuse.ensures)
