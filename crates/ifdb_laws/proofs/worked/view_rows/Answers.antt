use Rattle.ifdb_laws.proofs.Examples.{view_row_plays}
use Rattle.ifdb_laws.proofs.worked.view_rows.Goals as goal

pub returns : goal.returns
returns c = view_row_plays
