use Rattle.ifdb_trace.proofs.Standing.{next_wrong}
use Rattle.ifdb_trace.proofs.checker.Checker.take_next.Goals as goal

pub returns-then-not-take_line-clause-wrong : goal.returns-then-not-take_line-clause-wrong
returns-then-not-take_line-clause-wrong c = λ _.
    next_wrong c.args.text.now c.requires.short c.args.self.now c.requires.telling (c.take_line.ensures.other c.if-not-take_line.true)
