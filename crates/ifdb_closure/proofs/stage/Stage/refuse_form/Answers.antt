use Rattle.std.proofs.Common.{◌∙◌, ap, true, false}
use Rattle.ifdb_db.specs.Room.{client_in}
use Rattle.ifdb_closure.proofs.Turns.{faulty_does}
use Rattle.ifdb_closure.proofs.stage.Stage.refuse_form.Goals as goal

pub returns-then-is_open : goal.returns-then-is_open
returns-then-is_open c = λ line form.
    faulty_does c.args.self.now c.args.n line c.refuse.new.out.text c.args.fault true form
    (c.if-is_open.ensures ∙ ap (λ k. (client_in c.args.self.now.room k).is_open) c.session.ensures) c.refuse.ensures

pub returns : goal.returns
returns c = λ line form.
    faulty_does c.args.self.now c.args.n line c.refuse-2.new.out.text c.args.fault false form
    (c.if-is_open.ensures ∙ ap (λ k. (client_in c.args.self.now.room k).is_open) c.session.ensures) c.refuse-2.ensures
