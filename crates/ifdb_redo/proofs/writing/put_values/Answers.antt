use Rattle.std.proofs.Common.{◌++◌, length}
use Rattle.ifdb_redo.specs.Spelling as spell
use Rattle.ifdb_redo.specs.Spelled.{IsValue}
use Rattle.ifdb_redo.proofs.Putting.{put_more}
use Rattle.ifdb_redo.proofs.writing.put_values.Goals as goal

pub loop-value-preserved : goal.loop-value-preserved
loop-value-preserved c = put_more spell.value IsValue (c.args.out.now.items ++ spell.number (length c.args.values.now)) c.args.values.now c.loop-value.value-index c.value-item.result c.loop-value.out.items c.put_value.new.out.items c.loop-value-test.true c.value-item.is c.loop-value.invariant c.in_ok-put_value.ensures.text c.in_ok-put_value.ensures.spelled
