use Rattle.std.proofs.Common.{◌≡◌, arith, true}
use Rattle.std.specs.List.{flat_map}
use Rattle.std.proofs.lemmas.Bool.Decides.{nat_tests}
use Rattle.ifdb_row.specs.Content.{rising}
use Rattle.ifdb_row.proofs.TableWalks.{is_true}
use Rattle.ifdb_store.specs.Pages.{is_node}
use Rattle.ifdb_store.proofs.InPlace.{put_node, put_rises}
use Rattle.ifdb_store.proofs.node.Node.put.Goals as goal

pub invariant_of-self : goal.invariant_of-self
invariant_of-self g c =
    let rows = g.P.Placed.rows in
    let parts = c.self.inside.parts in
    let more = c.put_in.new.parts in
    let e = c.put_in.ensures in
    let node : is_node rows g.P.Part.is_part g.P.Part.is_full parts ≡ true = is_true _ c.self.invariant in
    let up : rising (flat_map rows parts) ≡ true = grind (arith, nat_tests, node) in
    let all = put_node rows g.P.Part.is_part g.P.Part.is_full parts more node e.many (is_true _ e.parts) e.full (put_rises (flat_map rows parts) (flat_map rows more) c.args.writes.now c.put_in.result e.rows (is_true _ c.requires.fitting) up) in
    grind (arith, nat_tests, all)

pub returns-clause-node : goal.returns-clause-node
returns-clause-node g c =
    let rows = g.P.Placed.rows in
    let parts = c.self.inside.parts in
    let more = c.put_in.new.parts in
    let e = c.put_in.ensures in
    let node : is_node rows g.P.Part.is_part g.P.Part.is_full parts ≡ true = is_true _ c.self.invariant in
    let up : rising (flat_map rows parts) ≡ true = grind (arith, nat_tests, node) in
    let all = put_node rows g.P.Part.is_part g.P.Part.is_full parts more node e.many (is_true _ e.parts) e.full (put_rises (flat_map rows parts) (flat_map rows more) c.args.writes.now c.put_in.result e.rows (is_true _ c.requires.fitting) up) in
    grind (arith, nat_tests, all)
