use Rattle.ifdb_syntax.proofs.KindsDiffer.{kinds_differ}
use Rattle.ifdb_syntax.proofs.laws.kinds_differ.Goals as goal

pub returns : goal.returns
returns c = kinds_differ
