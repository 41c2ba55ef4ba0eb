use Rattle.ifdb_closure.proofs.Spared.{memory_is_refused_alone}
use Rattle.ifdb_closure.proofs.laws.memory_is_refused_alone.Goals as goal

pub returns : goal.returns
returns c = memory_is_refused_alone c.memory_is_never_told.ensures.lines
