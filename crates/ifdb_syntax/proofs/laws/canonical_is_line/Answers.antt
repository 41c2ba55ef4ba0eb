use Rattle.ifdb_syntax.proofs.RequestLine.{line_in}
use Rattle.ifdb_syntax.proofs.laws.canonical_is_line.Goals as goal

pub returns : goal.returns
returns c = line_in
