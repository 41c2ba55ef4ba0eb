use Rattle.std.proofs.Common.{◌≡◌, length}
use Rattle.ifdb_journal.specs.Reading.{IsReady}
use Rattle.ifdb_row.specs.Questions.{rows_from}
use Rattle.ifdb_extract.specs.Writing.{GoesOn}
use Rattle.ifdb_extract.proofs.Walking.{IsPutSoFar}
use Rattle.ifdb_extract.proofs.extract.put_rows.Given as goal

abbrev pub invariant-runs : goal.invariant-runs
invariant-runs g l = record {
  rows : l.texts.rows.now ≡ l.rows;
  so : IsPutSoFar l.texts.rows.now l.texts.edge (g.D.Disk.tells l.fn.disk) l.fn.writer (g.D.Disk.tells l.disk) l.writer;
  ready : IsReady (g.D.Disk.tells l.disk) l.writer.at;
  later : GoesOn (g.D.Disk.tells l.fn.disk) (g.D.Disk.tells l.disk);
  calm : g.D.Disk.faults l.disk ≡ g.D.Disk.faults l.fn.disk;
}

abbrev pub decreases-runs : goal.decreases-runs
decreases-runs g l = length (rows_from l.texts.edge l.texts.rows.now)
