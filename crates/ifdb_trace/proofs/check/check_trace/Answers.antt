use Rattle.std.proofs.Common.{ap, subst}
use Rattle.ifdb_io.specs.Lines.{Reading}
use Rattle.ifdb_trace.specs.Checked.{CheckedWrong}
use Rattle.ifdb_trace.proofs.check.check_trace.Goals as goal

pub returns-clause-refused : goal.returns-clause-refused
returns-clause-refused g c = λ k same.
    subst (λ limit. CheckedWrong limit (g.R.Source.left c.args.input.now) (g.R.Source.left c.check_lines.new.input) k) (ap (λ (reader : Reading). reader.limit) c.in-Ok.ensures) (c.check_lines.ensures.refused k same)
