use Rattle.std.proofs.Common.{rules, ◌≤◌, length, subst}
use Rattle.ifdb_session.proofs.Queueing.{room_within}
use Rattle.ifdb_session.proofs.durable.QueueRecords.limit.Goals as goal

pub returns-clause-room : goal.returns-clause-room
returns-clause-room g c = λ text some le.
    room_within c.args.self.now c.longest_text.result c.longest_text.ensures.fits text some (subst (λ most. length text ≤ most) (search rules) le)
