use Rattle.std.proofs.Common.{◌∙◌, sym}
use Rattle.ifdb_redo.proofs.RisingTags.{goes_on, stops, ends}
use Rattle.ifdb_redo.proofs.reading.tags_rise.Goals as goal

pub loop-i-preserved : goal.loop-i-preserved
loop-i-preserved c = goes_on c.args.tags.now c.loop-i.i c.index-tags-i.result c.index-tags-i-in-loop-i.result c.loop-i.auto.i c.loop-i-test.true c.index-tags-i.is c.index-tags-i-in-loop-i.is (sym c.is_above.ensures ∙ c.if-not-is_above.false) c.loop-i.invariant

pub returns-then-not-is_above : goal.returns-then-not-is_above
returns-then-not-is_above c = stops c.args.tags.now c.loop-i.i c.index-tags-i.result c.index-tags-i-in-loop-i.result c.loop-i.auto.i c.loop-i-test.true c.index-tags-i.is c.index-tags-i-in-loop-i.is (sym c.is_above.ensures ∙ c.if-not-is_above.true) c.loop-i.invariant

pub returns : goal.returns
returns c = ends c.args.tags.now c.loop-i.i c.loop-i-test.false c.loop-i.invariant
