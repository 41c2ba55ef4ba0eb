use Rattle.std.proofs.Common.{◌≡◌, ◌≤◌, false}
use Rattle.ifdb_io.specs.Lines.{budget}
use Rattle.ifdb_closure.proofs.Progress.{Reached}
use Rattle.ifdb_closure.proofs.script.run_lines.Given as goal

-- the steps so far were told what was written, the stage stands for the world after them, and the reader goes on
abbrev pub invariant-lines : goal.invariant-lines
invariant-lines g l = record {
  reached : Reached (g.R.Source.left l.fn.input) (g.R.Source.left l.input) (g.W.Sink.written l.fn.output) (g.W.Sink.written l.output) l.reader l.stage;
  goes : l.reader.over ≡ false;
  limit : l.reader.limit ≡ l.fn.reader.limit;
  unfailed : g.R.Source.faults l.input ≡ g.R.Source.faults l.fn.input;
  output_later : g.W.Sink.faults l.fn.output ≤ g.W.Sink.faults l.output;
}

abbrev pub decreases-lines : goal.decreases-lines
decreases-lines g l = budget l.reader
