use Rattle.ifdb_laws.proofs.rows.Runs.{parents_live_lem}
use Rattle.ifdb_laws.proofs.row_laws.parents_live.Goals as goal

pub returns : goal.returns
returns c = parents_live_lem
