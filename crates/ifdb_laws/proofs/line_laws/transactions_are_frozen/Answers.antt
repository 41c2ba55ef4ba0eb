use Rattle.ifdb_laws.proofs.Frozen.{frozen_lem}
use Rattle.ifdb_laws.proofs.line_laws.transactions_are_frozen.Goals as goal

pub returns : goal.returns
returns c = frozen_lem
