use Rattle.ifdb_syntax.proofs.LineShape.{line_shape}
use Rattle.ifdb_syntax.proofs.laws.line_has_shape.Goals as goal

pub returns : goal.returns
returns c = line_shape
