use Rattle.ifdb_catalog.proofs.Later.{stays_fitting}
use Rattle.ifdb_catalog.proofs.laws.bound_requests_stay_fitting.Goals as goal

pub returns : goal.returns
returns c = stays_fitting
