use Rattle.ifdb_session.proofs.ClearedInside.{stay_inside}
use Rattle.ifdb_session.proofs.cleared.cleared_stay_inside.Goals as goal

pub returns : goal.returns
returns c = stay_inside
