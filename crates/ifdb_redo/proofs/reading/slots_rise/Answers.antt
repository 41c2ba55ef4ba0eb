use Rattle.std.proofs.Common.{◌∙◌, sym}
use Rattle.ifdb_redo.proofs.RisingWrites.{goes_on, stops, ends}
use Rattle.ifdb_redo.proofs.reading.slots_rise.Goals as goal

pub loop-i-preserved : goal.loop-i-preserved
loop-i-preserved c = goes_on c.args.writes.now c.loop-i.i c.index-writes-i.result c.index-writes-i-in-loop-i.result c.loop-i.auto.i c.loop-i-test.true c.index-writes-i.is c.index-writes-i-in-loop-i.is (sym c.is_before.ensures ∙ c.if-not-is_before.false) c.loop-i.invariant

pub returns-then-not-is_before : goal.returns-then-not-is_before
returns-then-not-is_before c = stops c.args.writes.now c.loop-i.i c.index-writes-i.result c.index-writes-i-in-loop-i.result c.loop-i.auto.i c.loop-i-test.true c.index-writes-i.is c.index-writes-i-in-loop-i.is (sym c.is_before.ensures ∙ c.if-not-is_before.true) c.loop-i.invariant

pub returns : goal.returns
returns c = ends c.args.writes.now c.loop-i.i c.loop-i-test.false c.loop-i.invariant
