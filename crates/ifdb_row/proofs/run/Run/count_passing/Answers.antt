use Rattle.std.proofs.Common.{◌≡◌, ◌+◌, ◌-◌, ◌/◌, ◌∙◌, arith, false, sym, true}
use Rattle.std.proofs.lemmas.Option.{get_or_from_slice_get, slice_get_within}
use Rattle.ifdb_row.specs.ByReference.{row_of}
use Rattle.ifdb_row.specs.Runs.{rows_in}
use Rattle.ifdb_row.proofs.Reaches.{reach_within, read_above, read_below}
use Rattle.ifdb_row.proofs.run.Run.count_passing.Goals as goal

pub loop-low-init : goal.loop-low-init
loop-low-init g c =
    let within = reach_within (g.T.RowTest.passes c.args.test.now) (rows_in c.args.self) in
    record { low = omega arith; high = omega arith; within = omega arith }

pub loop-low-preserved-then-passes : goal.loop-low-preserved-then-passes
loop-low-preserved-then-passes g c =
    let i = c.loop-low.invariant in
    let rows = rows_in c.args.self in
    let middle = c.loop-low.low + (c.loop-low.high - c.loop-low.low) / 2 in
    let row = row_of c.row.result in
    let same : g.T.RowTest.passes c.args.test.now row ≡ true = sym c.passes.ensures ∙ c.if-passes.true in
    record {
      low = read_above _ rows middle row c.requires (slice_get_within rows middle row c.row.ensures) (sym (get_or_from_slice_get rows middle row row c.row.ensures)) same;
      high = i.high;
      within = i.within;
    }

pub loop-low-preserved : goal.loop-low-preserved
loop-low-preserved g c =
    let i = c.loop-low.invariant in
    let rows = rows_in c.args.self in
    let middle = c.loop-low.low + (c.loop-low.high - c.loop-low.low) / 2 in
    let row = row_of c.row.result in
    let same : g.T.RowTest.passes c.args.test.now row ≡ false = sym c.passes.ensures ∙ c.if-passes.false in
    let t = c.loop-low-test.true in
    record {
      low = i.low;
      high = read_below _ rows middle row (slice_get_within rows middle row c.row.ensures) (sym (get_or_from_slice_get rows middle row row c.row.ensures)) same;
      within = omega arith;
    }
