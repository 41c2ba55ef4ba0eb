use Rattle.ifdb_closure.proofs.Bounds.{memory_serves}
use Rattle.ifdb_closure.proofs.laws.memory_serves.Goals as goal

pub returns : goal.returns
returns c = memory_serves
