use Rattle.std.proofs.Common.{refl}
use Rattle.ifdb_catalog.proofs.StatesFit.{next_fits}
use Rattle.ifdb_catalog.proofs.laws.states_stay_fitting.Goals as goal

pub returns : goal.returns
returns c = record { first = refl; next = next_fits }
