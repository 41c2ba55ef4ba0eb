use Rattle.std.proofs.Common.{◌≡◌, ◌≤◌, false}
use Rattle.ifdb_io.specs.Lines.{budget, IsLine}
use Rattle.ifdb_io.specs.Reader.{Comes}
use Rattle.ifdb_io.proofs.lines.LineReader.next.Given as goal

-- the text came from the bytes to come, and may be a line
abbrev pub invariant-loop-self : goal.invariant-loop-self
invariant-loop-self g l = record {
  came : Comes l.fn.self l.self (g.R.Source.left l.fn.source) (g.R.Source.left l.source);
  line : IsLine l.self.text;
  kept : g.R.Source.faults l.source ≡ g.R.Source.faults l.fn.source;
  beside : g.R.Source.beside l.source ≡ g.R.Source.beside l.fn.source;
  limit : l.self.limit ≡ l.fn.self.limit;
  over : l.self.over ≡ false;
  falls : budget l.self ≤ budget l.fn.self;
}

abbrev pub decreases-loop-self : goal.decreases-loop-self
decreases-loop-self g l = budget l.self
