use Rattle.std.proofs.Common.{rules}
use Rattle.ifdb_turn.specs.Passes.{history, places}
use Rattle.ifdb_turn.specs.Turns.{object_of}
use Rattle.ifdb_durable.proofs.Away.{away_none}
use Rattle.ifdb_durable.proofs.Appends.{stands_tried}
use Rattle.ifdb_durable.proofs.gives.flush.Goals as goal

pub leave-requires-3-clause-stands : goal.leave-requires-3-clause-stands
leave-requires-3-clause-stands g c =
    let wrote = c.write-written.ensures in
    stands_tried g.D.Disk.tells g.B.Naming.before g.D.Disk.faults g.B.Naming.table c.write-written.result (object_of c.enter-turn.result) c.give.new.writer c.write-written.new.self
    (search rules) c.enter-turn.ensures.stands (search rules) (search rules) c.give.ensures.seat wrote.moments wrote.written wrote.writes wrote.seat wrote.lost wrote.cause

pub returns-then-writer-clause-away : goal.returns-then-writer-clause-away
returns-then-writer-clause-away g c = away_none g.O.Object.root (history c.args.pass.now) (places c.args.pass.now)
