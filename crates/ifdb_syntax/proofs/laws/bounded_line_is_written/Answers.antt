use Rattle.ifdb_syntax.proofs.BoundedLine.{written_is_bounded, bounded_is_written}
use Rattle.ifdb_syntax.proofs.laws.bounded_line_is_written.Goals as goal

pub returns-clause-to : goal.returns-clause-to
returns-clause-to c = written_is_bounded

pub returns-clause-back : goal.returns-clause-back
returns-clause-back c = bounded_is_written
