use Rattle.ifdb_expr.proofs.Views.{view_seen}
use Rattle.ifdb_expr.proofs.laws.view_rows_are_seen.Goals as goal

pub returns : goal.returns
returns c = view_seen
