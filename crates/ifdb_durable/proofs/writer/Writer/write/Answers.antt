use Rattle.std.proofs.Common.{rules, ◌++◌}
use Rattle.ifdb_durable.proofs.Steps.{advances, fails}
use Rattle.ifdb_durable.proofs.Writing.{writes_on}
use Rattle.ifdb_durable.specs.Writing.{kept}
use Rattle.ifdb_durable.proofs.writer.Writer.write.Goals as goal

pub store-requires : goal.store-requires
store-requires g c = (search rules, search rules, fails _ _ _ c.requires.seat.role)

pub compare_exchange_with-self-requires : goal.compare_exchange_with-self-requires
compare_exchange_with-self-requires g c = (search rules, search rules, advances _ _ _ _ _ record { disk = c.append_batch.new.disk; batch = c.clear.new.self } c.requires.seat.role c.requires.seat.written c.requires.seat.count)

pub returns-clause-writes : goal.returns-clause-writes
returns-clause-writes g c = writes_on g.D.Disk.tells g.B.Naming.before g.B.Naming.table c.args.self.now
    record {
      journal = c.append_batch.new.self;
      hand = record { disk = c.append_batch.new.disk; batch = c.clear.new.self };
      count = c.args.self.now.count;
      written = c.args.self.now.count;
      has_failed = c.args.self.now.has_failed;
      seat = c.compare_exchange_with-self.new.seat;
      naming = c.args.self.now.naming;
    }
    c.requires.seat
    record { all = search rules; same = search rules; none = search rules }
    (search rules)
    (search rules)
    c.requires.seat.count
    c.requires.seat.count
    c.requires.works
    c.requires.works
    (c.in-Ok.ensures.added (g.B.Naming.before ++ kept c.args.self.now) c.requires.holds)
