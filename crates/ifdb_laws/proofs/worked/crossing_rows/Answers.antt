use Rattle.ifdb_laws.proofs.PairExamples.{came_down_crosses, referred_up_crosses, viewed_up_crosses, referred_down_crosses}
use Rattle.ifdb_laws.proofs.worked.crossing_rows.Goals as goal

pub returns-clause-comes_down : goal.returns-clause-comes_down
returns-clause-comes_down c = came_down_crosses

pub returns-clause-refers_up : goal.returns-clause-refers_up
returns-clause-refers_up c = referred_up_crosses

pub returns-clause-views_up : goal.returns-clause-views_up
returns-clause-views_up c = viewed_up_crosses

pub returns-clause-refers_down : goal.returns-clause-refers_down
returns-clause-refers_down c = referred_down_crosses
