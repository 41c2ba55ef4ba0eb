use Rattle.ifdb_catalog.proofs.BoundChangesAreNew.{changes_are_new}
use Rattle.ifdb_catalog.proofs.laws.bound_changes_are_new.Goals as goal

pub returns : goal.returns
returns c = changes_are_new
