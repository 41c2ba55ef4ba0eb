use Rattle.std.proofs.Common.{◌≤◌}
use Rattle.ifdb_journal.specs.Reading.{IsReady}
use Rattle.test_journal.proofs.tests.support.add_batches.Given as goal

abbrev pub invariant-loop-batch : goal.invariant-loop-batch
invariant-loop-batch g l = record {
  ready : IsReady (g.D.Disk.tells l.disk) l.journal.at;
  count : l.count ≤ l.batch-index;
}
