use Rattle.std.proofs.Common.{length, arith}
use Rattle.ifdb_catalog.specs.Public.{tag_names}
use Rattle.ifdb_closure.proofs.Made.{made_at}
use Rattle.ifdb_closure.proofs.lines.names_of.Goals as goal

pub name_of-requires : goal.name_of-requires
name_of-requires c =
    let t = c.tag-item.result in
    let made = made_at (length (tag_names c.args.room.now.desk.seen.public)) c.args.tags.now c.loop-tag.tag-index t c.requires.made (omega (arith, c.loop-tag-test.true)) in
    record { made = omega (arith, made, c.tag-item.is) }
