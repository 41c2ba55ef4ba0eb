use Rattle.std.proofs.Common.{refl}
use Rattle.ifdb_trace.specs.Projection.{overlong_line}
use Rattle.ifdb_trace.proofs.projection.overlong.Goals as goal

pub returns : goal.returns
unfolding overlong_line
returns c = refl
