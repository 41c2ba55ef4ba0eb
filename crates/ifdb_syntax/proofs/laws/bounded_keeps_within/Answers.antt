use Rattle.ifdb_syntax.proofs.Within.{within_is_kept, bounded_fits}
use Rattle.ifdb_syntax.proofs.laws.bounded_keeps_within.Goals as goal

pub returns-clause-same : goal.returns-clause-same
returns-clause-same c = within_is_kept

pub returns-clause-fits : goal.returns-clause-fits
returns-clause-fits c = bounded_fits
