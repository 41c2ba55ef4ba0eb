use Rattle.std.proofs.Common.{◌++◌, length}
use Rattle.ifdb_redo.specs.Spelling as spell
use Rattle.ifdb_redo.specs.Spelled.{IsNumber}
use Rattle.ifdb_redo.proofs.Putting.{put_more}
use Rattle.ifdb_redo.proofs.writing.put_tags.Goals as goal

pub loop-tag-preserved : goal.loop-tag-preserved
loop-tag-preserved c = put_more spell.number IsNumber (c.args.out.now.items ++ spell.number (length c.args.tags.now)) c.args.tags.now c.loop-tag.tag-index c.tag-item.result c.loop-tag.out.items c.put_tag.new.out.items c.loop-tag-test.true c.tag-item.is c.loop-tag.invariant c.in_ok-put_tag.ensures.text c.in_ok-put_tag.ensures.spelled
