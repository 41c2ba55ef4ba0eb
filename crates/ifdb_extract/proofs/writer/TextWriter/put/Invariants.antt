use Rattle.std.proofs.Common.{◌≡◌}
use Rattle.ifdb_journal.specs.Reading.{IsReady}
use Rattle.ifdb_log.specs.Pieces.{pieces, pieces_left}
use Rattle.ifdb_extract.specs.Writing.{GoesOn}
use Rattle.ifdb_extract.proofs.Putting.{AreLeft}
use Rattle.ifdb_extract.proofs.writer.TextWriter.put.Given as goal

abbrev pub invariant-loop-piece : goal.invariant-loop-piece
invariant-loop-piece g l = record {
  can : (goal.iterator-loop-piece g).can_next l.piece-iterator;
  ends : (goal.iterator-loop-piece g).is_finite l.piece-iterator;
  left : AreLeft (pieces l.text) (pieces_left l.piece-iterator.is_done l.piece-iterator.session l.piece-iterator.rest.now) (g.D.Disk.tells l.fn.disk) l.fn.self (g.D.Disk.tells l.disk) l.self;
  ready : IsReady (g.D.Disk.tells l.disk) l.self.at;
  later : GoesOn (g.D.Disk.tells l.fn.disk) (g.D.Disk.tells l.disk);
  calm : g.D.Disk.faults l.disk ≡ g.D.Disk.faults l.fn.disk;
}
