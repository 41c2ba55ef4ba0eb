use Rattle.ifdb_laws.proofs.Shapes.{bye_alone_lem}
use Rattle.ifdb_laws.proofs.line_laws.bye_alone_closes.Goals as goal

pub returns : goal.returns
returns c = bye_alone_lem
