use Rattle.ifdb_laws.proofs.rows.Apart.{keys_apart_lem}
use Rattle.ifdb_laws.proofs.row_laws.keys_apart.Goals as goal

pub returns : goal.returns
returns c = keys_apart_lem
