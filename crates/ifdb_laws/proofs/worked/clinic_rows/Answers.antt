use Rattle.ifdb_laws.proofs.Clinic.{clinic_row_plays}
use Rattle.ifdb_laws.proofs.worked.clinic_rows.Goals as goal

pub returns : goal.returns
returns c = clinic_row_plays
