use Rattle.std.proofs.Common.{◌≡◌, ◌+◌, ◌-◌, ◌∙◌, length, ◌/◌, true, false, arith, sym}
use Rattle.std.proofs.lemmas.Option.{get_or_from_slice_get, slice_get_within}
use Rattle.ifdb_row.specs.declared.row.Row.{Row}
use Rattle.ifdb_row.specs.ByReference.{row_of}
use Rattle.ifdb_row.specs.Edges.{lies_before}
use Rattle.ifdb_row.specs.Runs.{rows_in}
use Rattle.ifdb_row.proofs.Reaches.{reach_within, read_above, read_below}
use Rattle.ifdb_store.proofs.Costs.{halved, one_more, from_start, started}
use Rattle.ifdb_store.proofs.page.count_before.Goals as goal

pub loop-low-init : goal.loop-low-init
loop-low-init g c =
    let rows = rows_in c.args.rows in
    let within = reach_within (λ (r : Row). lies_before c.args.edge.now r.slot) rows in
    let len = c.len-high.ensures in
    record {
      low = omega arith;
      high = omega arith;
      within = omega arith;
      more = omega arith;
      each = rw len (from_start c.args.steps.now (length rows));
      cost = started c.args.steps.now (length rows);
    }

pub loop-low-preserved-then-is_behind : goal.loop-low-preserved-then-is_behind
loop-low-preserved-then-is_behind g c =
    let i = c.loop-low.invariant in
    let rows = rows_in c.args.rows in
    let middle = c.loop-low.low + (c.loop-low.high - c.loop-low.low) / 2 in
    let row = row_of c.row.result in
    let same : lies_before c.args.edge.now row.slot ≡ true = sym c.is_behind.ensures ∙ c.if-is_behind.true in
    let t = c.loop-low-test.true in
    let s = c.tick.ensures in
    record {
      low = read_above (λ (r : Row). lies_before c.args.edge.now r.slot) rows middle row c.requires (slice_get_within rows middle row c.row.ensures) (sym (get_or_from_slice_get rows middle row row c.row.ensures)) same;
      high = i.high;
      within = i.within;
      more = omega arith;
      each = rw s (halved c.args.steps.now c.loop-low.steps (c.loop-low.high - c.loop-low.low) _ _ i.more i.each (omega arith));
      cost = rw s (one_more c.args.steps.now c.loop-low.steps (c.loop-low.high - c.loop-low.low) _ i.more i.each (omega arith));
    }

pub loop-low-preserved : goal.loop-low-preserved
loop-low-preserved g c =
    let i = c.loop-low.invariant in
    let rows = rows_in c.args.rows in
    let middle = c.loop-low.low + (c.loop-low.high - c.loop-low.low) / 2 in
    let row = row_of c.row.result in
    let same : lies_before c.args.edge.now row.slot ≡ false = sym c.is_behind.ensures ∙ c.if-is_behind.false in
    let t = c.loop-low-test.true in
    let s = c.tick.ensures in
    record {
      low = i.low;
      high = read_below (λ (r : Row). lies_before c.args.edge.now r.slot) rows middle row (slice_get_within rows middle row c.row.ensures) (sym (get_or_from_slice_get rows middle row row c.row.ensures)) same;
      within = omega arith;
      more = omega arith;
      each = rw s (halved c.args.steps.now c.loop-low.steps (c.loop-low.high - c.loop-low.low) _ _ i.more i.each (omega arith));
      cost = rw s (one_more c.args.steps.now c.loop-low.steps (c.loop-low.high - c.loop-low.low) _ i.more i.each (omega arith));
    }
