use Rattle.std.proofs.Common.{rules}
use Rattle.ifdb_durable.specs.Queues.{all_of}
use Rattle.ifdb_durable.proofs.Appends.{stands_same}
use Rattle.ifdb_durable.proofs.Begins.{begins_on}
use Rattle.ifdb_durable.proofs.Worth.{worth}
use Rattle.ifdb_durable.proofs.group.GroupCommit.close.Goals as goal

pub returns-clause-stands : goal.returns-clause-stands
returns-clause-stands g c =
    stands_same g.D.Disk.tells g.B.Naming.before g.D.Disk.faults g.B.Naming.table c.close-writer.result c.end.new.self
    c.end.ensures.works c.end.ensures.told c.end.ensures.hand c.end.ensures.place c.end.ensures.seat c.close-writer.ensures.stands

pub returns-clause-worth : goal.returns-clause-worth
returns-clause-worth g c receipt begins =
    worth g.D.Disk.tells g.B.Naming.before g.D.Disk.faults g.B.Naming.table c.end.new.self (all_of c.end.new.queue) receipt
    (returns-clause-stands g c) (c.end.new.queue.waiting, search rules) (begins_on receipt c.args.member.receipt _ begins c.end.ensures.heard)
