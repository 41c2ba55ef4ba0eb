use Rattle.ifdb_loop.proofs.Beginning.{order_first}
use Rattle.bench_loop.proofs.loops.go_round.Goals as goal

pub serve-requires-clause-order : goal.serve-requires-clause-order
serve-requires-clause-order g c κs within = order_first _ _ _ _ _ c.new-echo.ensures tt
