use Rattle.ifdb_compact.proofs.Restoring.{texts_restore}
use Rattle.ifdb_compact.proofs.laws.compacted_texts_restore.Goals as goal

pub returns : goal.returns
returns c = texts_restore
