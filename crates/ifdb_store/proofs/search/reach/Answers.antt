use Rattle.std.proofs.Common.{◌≡◌, ◌+◌, ◌-◌, length, ◌/◌, true, false, arith}
use Rattle.ifdb_row.specs.Edges.{lies_before}
use Rattle.ifdb_row.proofs.Reaches.{reach_within, read_above, read_below}
use Rattle.ifdb_store.proofs.Costs.{halved, one_more, from_start, started}
use Rattle.ifdb_store.proofs.search.reach.Goals as goal

pub loop-low-init : goal.loop-low-init
loop-low-init g c = record {
  low = omega arith;
  high = reach_within _ _;
  within = omega arith;
  more = omega arith;
  each = from_start c.args.steps.now (length c.args.items.now);
  cost = started c.args.steps.now (length c.args.items.now);
}

pub loop-low-preserved-then-is_before : goal.loop-low-preserved-then-is_before
loop-low-preserved-then-is_before g c =
    let i = c.loop-low.invariant in
    let same : lies_before c.args.edge.now (g.T.Item.spot c.index-items-middle.result) ≡ true = cc in
    let t = c.loop-low-test.true in
    let s = c.tick.ensures in
    record {
      low = read_above _ _ (c.loop-low.low + (c.loop-low.high - c.loop-low.low) / 2) c.index-items-middle.result c.requires (omega arith) c.index-items-middle.is same;
      high = i.high;
      within = i.within;
      more = omega arith;
      each = rw s (halved c.args.steps.now c.loop-low.steps (c.loop-low.high - c.loop-low.low) _ _ i.more i.each (omega arith));
      cost = rw s (one_more c.args.steps.now c.loop-low.steps (c.loop-low.high - c.loop-low.low) _ i.more i.each (omega arith));
    }

pub loop-low-preserved : goal.loop-low-preserved
loop-low-preserved g c =
    let i = c.loop-low.invariant in
    let same : lies_before c.args.edge.now (g.T.Item.spot c.index-items-middle.result) ≡ false = cc in
    let t = c.loop-low-test.true in
    let s = c.tick.ensures in
    record {
      low = i.low;
      high = read_below _ _ (c.loop-low.low + (c.loop-low.high - c.loop-low.low) / 2) c.index-items-middle.result (omega arith) c.index-items-middle.is same;
      within = omega arith;
      more = omega arith;
      each = rw s (halved c.args.steps.now c.loop-low.steps (c.loop-low.high - c.loop-low.low) _ _ i.more i.each (omega arith));
      cost = rw s (one_more c.args.steps.now c.loop-low.steps (c.loop-low.high - c.loop-low.low) _ i.more i.each (omega arith));
    }
