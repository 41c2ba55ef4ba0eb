use Rattle.ifdb_loop.proofs.Beginning.{order_first}
use Rattle.bench_loop.proofs.memory.served.Goals as goal

pub serve-requires-clause-order : goal.serve-requires-clause-order
serve-requires-clause-order c κs = order_first _ _ _ _ _ c.new-echo.ensures c.in_ok-gate.ensures.back
