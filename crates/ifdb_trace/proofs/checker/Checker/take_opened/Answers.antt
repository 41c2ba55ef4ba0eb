use Rattle.std.proofs.Common.{◌≡◌, ◌+◌, ◌<◌, ◌^◌, length, refl, sym, ap, subst, ◌∙◌, arith}
use Rattle.ifdb_model.specs.Script.{lines_of}
use Rattle.ifdb_trace.specs.declared.checker.Stage.TheVariants as stage
use Rattle.ifdb_trace.specs.declared.checker.Checker.{Checker}
use Rattle.ifdb_trace.proofs.Standing.{opened_memory, opened_on, opened_wrong, on_both}
use Rattle.ifdb_trace.proofs.checker.Checker.take_opened.Goals as goal

pub returns-then-take_line-clause-on : goal.returns-then-take_line-clause-on
returns-then-take_line-clause-on c =
    opened_memory c.args.text.now c.requires.short c.args.self.now c.requires.opening c.in-Some.number (c.in-Some.ensures.1 ∙ ap (λ n. n + 1) c.sessions.ensures)
    (omega (arith, c.in-Some.ensures.0, c.in-Some.ensures.1))
    (record { room = c.args.self.now.room; reply = c.take_line.new.self; request = c.args.self.now.request; stage = stage.Telling }) refl refl
    (ap lines_of (sym c.refuse.ensures) ∙ c.take_line.ensures.told c.if-take_line.true)

pub returns-clause-on : goal.returns-clause-on
returns-clause-on c =
    on_both c.take_first.result
    (opened_on c.args.text.now c.requires.short c.args.self.now c.requires.opening c.in-Some.number (c.in-Some.ensures.1 ∙ ap (λ n. n + 1) c.sessions.ensures)
    (omega (arith, c.in-Some.ensures.0, c.in-Some.ensures.1))
    (record { room = c.open.new.room; reply = c.open.new.self; request = c.args.self.now.request; stage = stage.Telling })
    (c.open.ensures.opened c.if-not-open.false) (c.open.ensures.told c.if-not-open.false) refl
    (λ more e. c.take_line.ensures.other c.if-take_line.false more (ap lines_of c.refuse.ensures ∙ e)) c.take_first.new.self)
    c.take_first.ensures.on c.take_first.ensures.fits

pub returns-clause-wrong : goal.returns-clause-wrong
returns-clause-wrong c = λ wrong.
    opened_wrong c.args.text.now c.requires.short c.args.self.now c.requires.opening c.in-Some.number (c.in-Some.ensures.1 ∙ ap (λ n. n + 1) c.sessions.ensures)
    (omega (arith, c.in-Some.ensures.0, c.in-Some.ensures.1))
    (record { room = c.open.new.room; reply = c.open.new.self; request = c.args.self.now.request; stage = stage.Telling })
    (c.open.ensures.opened c.if-not-open.false) (c.open.ensures.told c.if-not-open.false) refl
    (λ more e. c.take_line.ensures.other c.if-take_line.false more (ap lines_of c.refuse.ensures ∙ e)) (c.take_first.ensures.wrong wrong)
