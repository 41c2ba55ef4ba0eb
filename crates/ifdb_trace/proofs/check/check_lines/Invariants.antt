use Rattle.std.proofs.Common.{◌≡◌, ◌≤◌, false}
use Rattle.ifdb_io.specs.Lines.{budget}
use Rattle.ifdb_trace.proofs.Judging.{Judged}
use Rattle.ifdb_trace.proofs.check.check_lines.Given as goal

-- the lines so far have no fault, and the reader goes on
abbrev pub invariant-lines : goal.invariant-lines
invariant-lines g l = record {
  judged : Judged (g.R.Source.left l.fn.input) (g.R.Source.left l.input) l.reader l.checker l.count;
  goes : l.reader.over ≡ false;
  limit : l.reader.limit ≡ l.fn.reader.limit;
  few : l.count ≤ l.fn.reader.limit;
  within : l.reader.taken ≤ l.fn.reader.limit;
  later : g.R.Source.faults l.fn.input ≤ g.R.Source.faults l.input;
  unfailed : g.R.Source.faults l.input ≡ g.R.Source.faults l.fn.input;
}

abbrev pub decreases-lines : goal.decreases-lines
decreases-lines g l = budget l.reader
