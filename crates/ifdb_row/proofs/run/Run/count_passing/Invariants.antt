use Rattle.std.proofs.Common.{◌-◌, ◌≤◌, length}
use Rattle.ifdb_row.specs.Reach.{reach}
use Rattle.ifdb_row.specs.Runs.{rows_in}
use Rattle.ifdb_row.proofs.run.Run.count_passing.Given as goal

-- the count lies between the two
abbrev pub invariant-loop-low : goal.invariant-loop-low
invariant-loop-low g l =
    let reached = reach (g.T.RowTest.passes l.test) (rows_in l.self) in
    record {
      low : l.low ≤ reached;
      high : reached ≤ l.high;
      within : l.high ≤ length (rows_in l.self);
    }

abbrev pub decreases-loop-low : goal.decreases-loop-low
decreases-loop-low g l = l.high - l.low
