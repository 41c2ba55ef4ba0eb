use Rattle.std.proofs.Common.{◌++◌, length}
use Rattle.ifdb_redo.specs.Spelling as spell
use Rattle.ifdb_redo.specs.Spelled.{IsSlot}
use Rattle.ifdb_redo.proofs.Putting.{put_more}
use Rattle.ifdb_redo.proofs.writing.put_slots.Goals as goal

pub loop-slot-preserved : goal.loop-slot-preserved
loop-slot-preserved c = put_more spell.slot IsSlot (c.args.out.now.items ++ spell.number (length c.args.slots.now)) c.args.slots.now c.loop-slot.slot-index c.slot-item.result c.loop-slot.out.items c.put_slot.new.out.items c.loop-slot-test.true c.slot-item.is c.loop-slot.invariant c.in_ok-put_slot.ensures.text c.in_ok-put_slot.ensures.spelled
