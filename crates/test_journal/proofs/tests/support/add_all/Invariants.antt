use Rattle.std.proofs.Common.{◌≤◌}
use Rattle.ifdb_journal.specs.Reading.{IsReady}
use Rattle.test_journal.proofs.tests.support.add_all.Given as goal

abbrev pub invariant-loop-row : goal.invariant-loop-row
invariant-loop-row g l = record {
  ready : IsReady (g.D.Disk.tells l.disk) l.journal.at;
  count : l.count ≤ l.row-index;
}
