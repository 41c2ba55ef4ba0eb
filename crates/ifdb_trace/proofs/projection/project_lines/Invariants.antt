use Rattle.std.proofs.Common.{◌≡◌, ◌≤◌, false}
use Rattle.ifdb_io.specs.Lines.{budget}
use Rattle.ifdb_trace.proofs.Showing.{Shown}
use Rattle.ifdb_trace.proofs.projection.project_lines.Given as goal

-- the projection of the lines so far was written, the room stands for the state behind them, and the reader goes on
abbrev pub invariant-lines : goal.invariant-lines
invariant-lines g l = record {
  shown : Shown l.level (g.R.Source.left l.fn.input) (g.R.Source.left l.input) (g.W.Sink.written l.fn.output) (g.W.Sink.written l.output) l.reader l.room;
  goes : l.reader.over ≡ false;
  limit : l.reader.limit ≡ l.fn.reader.limit;
  input_later : g.R.Source.faults l.fn.input ≤ g.R.Source.faults l.input;
  unfailed : g.R.Source.faults l.input ≡ g.R.Source.faults l.fn.input;
  output_later : g.W.Sink.faults l.fn.output ≤ g.W.Sink.faults l.output;
}

abbrev pub decreases-lines : goal.decreases-lines
decreases-lines g l = budget l.reader
