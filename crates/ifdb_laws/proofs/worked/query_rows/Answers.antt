use Rattle.ifdb_laws.proofs.Examples.{range_row_plays, order_row_plays}
use Rattle.ifdb_laws.proofs.worked.query_rows.Goals as goal

pub returns-clause-range : goal.returns-clause-range
returns-clause-range c = range_row_plays

pub returns-clause-order : goal.returns-clause-order
returns-clause-order c = order_row_plays
