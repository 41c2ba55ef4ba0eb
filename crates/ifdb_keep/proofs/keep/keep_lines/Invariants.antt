use Rattle.std.proofs.Common.{◌≡◌, ◌≤◌, false}
use Rattle.std.specs.Prelude.{Option}
use Rattle.ifdb_io.specs.Lines.{budget}
use Rattle.ifdb_disk.specs.Clock.{Clock}
use Rattle.ifdb_journal.specs.Reading.{IsReady}
use Rattle.ifdb_keep.specs.Resumed.{Began}
use Rattle.ifdb_keep.proofs.Progress.{Reached}
use Rattle.ifdb_keep.proofs.keep.keep_lines.Given as goal

-- the steps so far were kept and told what was written, the room stands for the state behind them, and the reader goes on
abbrev pub invariant-lines : goal.invariant-lines
invariant-lines g l = record {
  reached : (first : Option Clock) → (b : Began first (g.D.Disk.tells l.fn.disk) l.fn.keeper.room l.fn.keeper.journal.at)
      → Reached b.before (g.D.Disk.tells l.fn.disk) l.fn.keeper.journal.at (g.R.Source.left l.fn.input) (g.R.Source.left l.input) (g.W.Sink.written l.fn.output) (g.W.Sink.written l.output)
      (g.D.Disk.tells l.disk) l.keeper.journal.at l.reader l.keeper.room;
  ready : IsReady (g.D.Disk.tells l.disk) l.keeper.journal.at;
  base : l.keeper.base ≡ l.fn.keeper.base;
  goes : l.reader.over ≡ false;
  limit : l.reader.limit ≡ l.fn.reader.limit;
  unfailed : g.R.Source.faults l.input ≡ g.R.Source.faults l.fn.input;
  output_later : g.W.Sink.faults l.fn.output ≤ g.W.Sink.faults l.output;
  disk : g.D.Disk.faults l.disk ≡ g.D.Disk.faults l.fn.disk;
}

abbrev pub decreases-lines : goal.decreases-lines
decreases-lines g l = budget l.reader
