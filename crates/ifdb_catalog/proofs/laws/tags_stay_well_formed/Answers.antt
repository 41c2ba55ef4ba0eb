use Rattle.ifdb_catalog.proofs.Growth.{tags_are_well_formed}
use Rattle.ifdb_catalog.proofs.laws.tags_stay_well_formed.Goals as goal

pub returns : goal.returns
returns c = tags_are_well_formed
