use Rattle.ifdb_catalog.proofs.Copies.{next_key}
use Rattle.ifdb_catalog.proofs.catalog.copy.copied_names.Goals as goal

pub loop-name-preserved : goal.loop-name-preserved
loop-name-preserved c =
    next_key c.args.names.now.keys c.loop-name.copies.keys c.loop-name.name-iterator c.in-Some.name.now c.next.new.self c.iter-name-items.ensures.unique c.loop-name.invariant
    c.in-Some.ensures.steps c.insert.new.self.keys c.in_ok-share.field-0 c.in_ok-insert.ensures.keys c.in_ok-share.ensures
