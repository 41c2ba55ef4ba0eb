use Rattle.ifdb_io.proofs.Behind.{short_then}
use Rattle.ifdb_trace.proofs.Showing.{on_err}
use Rattle.ifdb_trace.proofs.projection.write_line.Goals as goal

pub returns-clause-err : goal.returns-clause-err
returns-clause-err g c = on_err c.write_all-2.result (short_then _ _ _ c.args.line.now _ c.in_ok-write_all.ensures.ok) c.write_all-2.ensures.err
