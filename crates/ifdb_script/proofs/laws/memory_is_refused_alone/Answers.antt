use Rattle.ifdb_db.specs.Reading.{read_line}
use Rattle.ifdb_db.proofs.Spares.{read_spares}
use Rattle.ifdb_script.proofs.laws.memory_is_refused_alone.Goals as goal

pub returns : goal.returns
returns c = c.memory_is_never_told.ensures.scripts read_line read_spares
