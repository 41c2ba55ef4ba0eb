use Rattle.std.proofs.Common.{◌≡◌, ◌∙◌, ap, rules}
use Rattle.std.specs.List.{flat_map}
use Rattle.ifdb_row.specs.Content.{rising, after}
use Rattle.ifdb_row.proofs.ContentLaws.{rising_after}
use Rattle.ifdb_store.proofs.node.Node.after.Goals as goal

pub nodes_of-requires-clause-rising : goal.nodes_of-requires-clause-rising
nodes_of-requires-clause-rising g c =
    let rows = g.P.Placed.rows in
    let new : flat_map rows c.parts_after.new.out.items ≡ after (flat_map rows c.parts.result.now) c.args.writes.now = search rules in
    ap rising new ∙ rising_after (flat_map rows c.parts.result.now) c.args.writes.now c.requires.fitting c.parts.ensures.rising
