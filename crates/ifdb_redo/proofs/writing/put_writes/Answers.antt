use Rattle.std.proofs.Common.{◌++◌, length}
use Rattle.ifdb_redo.specs.Spelling as spell
use Rattle.ifdb_redo.specs.Spelled.{IsWrite}
use Rattle.ifdb_redo.proofs.Putting.{put_more}
use Rattle.ifdb_redo.proofs.writing.put_writes.Goals as goal

pub loop-write-preserved : goal.loop-write-preserved
loop-write-preserved c = put_more spell.write IsWrite (c.args.out.now.items ++ spell.number (length c.args.writes.now)) c.args.writes.now c.loop-write.write-index c.write-item.result c.loop-write.out.items c.put_write.new.out.items c.loop-write-test.true c.write-item.is c.loop-write.invariant c.in_ok-put_write.ensures.text c.in_ok-put_write.ensures.spelled
