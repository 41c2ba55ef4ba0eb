use Rattle.ifdb_loop.proofs.Beginning.{order_first}
use Rattle.test_loop.proofs.tests.run.Goals as goal

pub serve-end-requires-clause-order : goal.serve-end-requires-clause-order
serve-end-requires-clause-order c κs = order_first _ _ _ _ _ c.new-echo.ensures c.in_ok-gate.ensures.back
