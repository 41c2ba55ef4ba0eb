use Rattle.std.proofs.Common.{◌≡◌, false, subst}
use Rattle.ifdb_trace.specs.Stages.{IsEnd}
use Rattle.ifdb_trace.proofs.Judging.{end_on}
use Rattle.ifdb_trace.proofs.check.end_after.Goals as goal

pub returns : goal.returns
returns c = λ all at. end_on c.args.count all false (subst (λ b. IsEnd b all) c.if-may_end.false (c.may_end.ensures.end all at))
