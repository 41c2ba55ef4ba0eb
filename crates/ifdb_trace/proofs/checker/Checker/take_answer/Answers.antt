use Rattle.std.proofs.Common.{refl, sym, ap, subst, ◌∙◌}
use Rattle.ifdb_model.specs.Script.{lines_of}
use Rattle.ifdb_trace.specs.declared.checker.Stage.TheVariants as stage
use Rattle.ifdb_trace.specs.declared.checker.Checker.{Checker}
use Rattle.ifdb_db.specs.RoomSteps.{GoesBy, IsReplyText}
use Rattle.ifdb_model.specs.Run.{asks}
use Rattle.std.specs.Prelude.{Some}
use Rattle.ifdb_trace.proofs.Standing.{answer_memory, answer_on, answer_wrong, on_both}
use Rattle.ifdb_trace.proofs.checker.Checker.take_answer.Goals as goal

pub returns-then-take_line-clause-on : goal.returns-then-take_line-clause-on
returns-then-take_line-clause-on c =
    answer_memory c.args.text.now c.requires.short c.memory_is_never_told.ensures.lines c.args.self.now c.args.session c.requires.asking
    (record { room = c.args.self.now.room; reply = c.take_line.new.self; request = c.args.self.now.request; stage = stage.Telling }) refl refl
    (ap lines_of (sym c.refuse.ensures) ∙ c.take_line.ensures.told c.if-take_line.true)

pub returns-clause-on : goal.returns-clause-on
returns-clause-on c =
    let goes : GoesBy c.args.self.now.room c.ask.new.room (asks c.args.session c.args.self.now.request.items) =
    subst (λ line. GoesBy c.args.self.now.room c.ask.new.room (asks c.args.session line)) c.deref.ensures.value (c.ask.ensures.asked c.if-not-ask.false) in
    let says : IsReplyText c.args.self.now.room c.args.session c.args.self.now.request.items (Some c.args.session) c.ask.new.self =
    subst (λ line. IsReplyText c.args.self.now.room c.args.session line (Some c.args.session) c.ask.new.self) c.deref.ensures.value (c.ask.ensures.told c.if-not-ask.false) in
    on_both c.take_first.result
    (answer_on c.args.text.now c.requires.short c.memory_is_never_told.ensures.lines c.args.self.now c.args.session c.requires.asking
    (record { room = c.ask.new.room; reply = c.ask.new.self; request = c.args.self.now.request; stage = stage.Telling }) goes says refl
    (λ more e. c.take_line.ensures.other c.if-take_line.false more (ap lines_of c.refuse.ensures ∙ e)) c.take_first.new.self)
    c.take_first.ensures.on c.take_first.ensures.fits

pub returns-clause-wrong : goal.returns-clause-wrong
returns-clause-wrong c = λ wrong.
    let goes : GoesBy c.args.self.now.room c.ask.new.room (asks c.args.session c.args.self.now.request.items) =
    subst (λ line. GoesBy c.args.self.now.room c.ask.new.room (asks c.args.session line)) c.deref.ensures.value (c.ask.ensures.asked c.if-not-ask.false) in
    let says : IsReplyText c.args.self.now.room c.args.session c.args.self.now.request.items (Some c.args.session) c.ask.new.self =
    subst (λ line. IsReplyText c.args.self.now.room c.args.session line (Some c.args.session) c.ask.new.self) c.deref.ensures.value (c.ask.ensures.told c.if-not-ask.false) in
    answer_wrong c.args.text.now c.requires.short c.memory_is_never_told.ensures.lines c.args.self.now c.args.session c.requires.asking
    (record { room = c.ask.new.room; reply = c.ask.new.self; request = c.args.self.now.request; stage = stage.Telling }) goes says refl
    (λ more e. c.take_line.ensures.other c.if-take_line.false more (ap lines_of c.refuse.ensures ∙ e)) (c.take_first.ensures.wrong wrong)
