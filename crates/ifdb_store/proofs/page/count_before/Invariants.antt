use Rattle.std.proofs.Common.{◌-◌, ◌≤◌, ◌+◌, ◌*◌, ◌^◌, length}
use Rattle.ifdb_row.specs.declared.row.Row.{Row}
use Rattle.ifdb_row.specs.Edges.{lies_before}
use Rattle.ifdb_row.specs.Reach.{reach}
use Rattle.ifdb_row.specs.Runs.{rows_in}
use Rattle.ifdb_store.proofs.page.count_before.Given as goal

abbrev pub invariant-loop-low : goal.invariant-loop-low
invariant-loop-low g l =
    let reached = reach (λ (r : Row). lies_before l.edge r.slot) (rows_in l.rows) in
    record {
      low : l.low ≤ reached;
      high : reached ≤ l.high;
      within : l.high ≤ length (rows_in l.rows);
      more : l.fn.steps ≤ l.steps;
      each : 2 ^ (l.steps - l.fn.steps) * (l.high - l.low) ≤ length (rows_in l.rows);
      cost : 2 ^ (l.steps - l.fn.steps) ≤ 2 * length (rows_in l.rows) + 1;
    }

abbrev pub decreases-loop-low : goal.decreases-loop-low
decreases-loop-low g l = l.high - l.low
