use Rattle.ifdb_laws.proofs.Memory.{memory_lem, scripts_lem}
use Rattle.ifdb_laws.proofs.line_laws.memory_is_never_told.Goals as goal

pub returns-clause-lines : goal.returns-clause-lines
returns-clause-lines c = memory_lem

pub returns-clause-scripts : goal.returns-clause-scripts
returns-clause-scripts c = scripts_lem
