use Rattle.std.proofs.Common.{rules}
use Rattle.ifdb_turn.proofs.LookAtServing.{looks, begun, not_yet}
use Rattle.ifdb_turn.proofs.turnstile.Turnstile.await_turn.Goals as goal

pub load-serving-requires : goal.load-serving-requires
load-serving-requires g c = (search rules, search rules, looks _ _ _ _ _ _ c.args.ticket (search rules) (search rules))

pub returns-then-serving-ticket : goal.returns-then-serving-ticket
returns-then-serving-ticket g c = let e = c.load-serving.ensures in
    begun _ _ _ c.args.self.now.table.shared.table_id.slots _ _ c.args.seat.now c.loop.seat c.load-serving.new.seat c.loop.invariant.0 c.loop.invariant.1 (search rules) c.if-serving-ticket.true (e.0, e.1) e.2

pub loop-preserved : goal.loop-preserved
loop-preserved g c = let e = c.load-serving.ensures in
    not_yet _ _ _ c.args.self.now.table.shared.table_id.slots _ _ c.args.seat.now c.loop.seat c.load-serving.new.seat c.loop.invariant.0 c.loop.invariant.1 (search rules) c.if-serving-ticket.false (e.0, e.1) e.2
