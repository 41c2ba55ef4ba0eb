use Rattle.std.proofs.Common.{◌≡◌, take}
use Rattle.std.specs.List.{flat_map}
use Rattle.ifdb_journal.specs.Reading.{IsReady}
use Rattle.ifdb_log.specs.Pieces.{pieces}
use Rattle.ifdb_extract.specs.Writing.{GoesOn, Puts}
use Rattle.ifdb_extract.proofs.extract.put_changes.Given as goal

abbrev pub invariant-loop-change : goal.invariant-loop-change
invariant-loop-change g l = record {
  puts : Puts (flat_map pieces (take l.change-index l.changes)) (g.D.Disk.tells l.fn.disk) l.fn.writer (g.D.Disk.tells l.disk) l.writer;
  ready : IsReady (g.D.Disk.tells l.disk) l.writer.at;
  later : GoesOn (g.D.Disk.tells l.fn.disk) (g.D.Disk.tells l.disk);
  calm : g.D.Disk.faults l.disk ≡ g.D.Disk.faults l.fn.disk;
}
