use Rattle.ifdb_catalog.proofs.BoundRequestsFit.{bound_is_fitting}
use Rattle.ifdb_catalog.proofs.laws.bound_requests_fit.Goals as goal

pub returns : goal.returns
returns c = bound_is_fitting
