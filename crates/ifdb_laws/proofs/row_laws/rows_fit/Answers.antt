use Rattle.ifdb_laws.proofs.rows.Fitting.{rows_fit_lem}
use Rattle.ifdb_laws.proofs.row_laws.rows_fit.Goals as goal

pub returns : goal.returns
returns c = rows_fit_lem
