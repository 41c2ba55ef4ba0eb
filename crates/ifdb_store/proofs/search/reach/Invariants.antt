use Rattle.std.proofs.Common.{◌-◌, ◌≤◌, ◌+◌, ◌*◌, ◌^◌, length}
use Rattle.ifdb_row.specs.Edges.{lies_before}
use Rattle.ifdb_row.specs.Reach.{reach}
use Rattle.ifdb_store.proofs.search.reach.Given as goal

abbrev pub invariant-loop-low : goal.invariant-loop-low
invariant-loop-low g l =
    let reached = reach (λ x. lies_before l.edge (g.T.Item.spot x)) l.items in
    record {
      low : l.low ≤ reached;
      high : reached ≤ l.high;
      within : l.high ≤ length l.items;
      more : l.fn.steps ≤ l.steps;
      each : 2 ^ (l.steps - l.fn.steps) * (l.high - l.low) ≤ length l.items;
      cost : 2 ^ (l.steps - l.fn.steps) ≤ 2 * length l.items + 1;
    }

abbrev pub decreases-loop-low : goal.decreases-loop-low
decreases-loop-low g l = l.high - l.low
