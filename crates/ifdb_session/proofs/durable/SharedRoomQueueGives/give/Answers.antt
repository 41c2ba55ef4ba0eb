use Rattle.std.proofs.Common.{sym, subst}
use Rattle.ifdb_session.specs.Durable.{HasRecords}
use Rattle.ifdb_session.specs.Records.{records_of}
use Rattle.ifdb_session.proofs.Queueing.{records_taken}
use Rattle.ifdb_session.proofs.durable.SharedRoomQueueGives.give.Goals as goal

pub returns-clause-stands : goal.returns-clause-stands
returns-clause-stands g c = λ h s.
    let rs = records_of g.B.Begins.first h in
    record {
      room = s.room;
      entries = s.entries;
      commits = s.commits;
      refused = s.refused;
      recorded = subst (λ q. HasRecords q rs) (sym c.take.ensures.queue) (records_taken c.args.self.now.records _ rs s.recorded);
    }
