use Rattle.std.proofs.Common.{◌≡◌, ◌≤◌, ◌-◌, ◌++◌, ◌∷◌, [], ◌∙◌, ap, sym, length, take, drop, rules, arith}
use Rattle.std.specs.List.{flat_map, list_all}
use Rattle.std.proofs.lemmas.Bool.Decides.{nat_tests}
use Rattle.std.proofs.lemmas.Grind.{common_steps}
use Rattle.std.proofs.lemmas.List.Folds.{list_all-append}
use Rattle.ifdb_store.specs.Pages.{in_nodes, is_full_node, is_node}
use Rattle.ifdb_store.proofs.Nodes.{is_cut, node_more}
use Rattle.ifdb_store.proofs.PartLemmas.{flat_take_part}
use Rattle.ifdb_store.proofs.node.several_nodes.Goals as goal

pub new-requires : goal.new-requires
new-requires g c =
    let parts = c.args.parts.now in
    let n = c.loop-from.from in
    let k = c.end_of-to.result - n in
    let cut : c.in_ok-shared.field-0.items ≡ take k (drop n parts) = search rules in
    let to = c.end_of-to.ensures in
    let more = to.more in
    let within = to.within in
    let few = to.few in
    let many = c.requires.many in
    ap (is_node g.P.Placed.rows g.P.Part.is_part g.P.Part.is_full) cut
    ∙ is_cut g.P.Placed.rows g.P.Part.is_part g.P.Part.is_full parts n k (omega (arith, many)) c.requires.full c.requires.good c.requires.rising (omega (arith, more)) (omega (arith, more, few)) (omega (arith, more, within))

pub loop-from-preserved : goal.loop-from-preserved
loop-from-preserved g c =
    let parts = c.args.parts.now in
    let n = c.loop-from.from in
    let m = c.end_of-to.result in
    let cut : c.in_ok-shared.field-0.items ≡ take (m - n) (drop n parts) = search rules in
    let new : c.push.new.self.items ≡ c.loop-from.nodes.items ++ take (m - n) (drop n parts) ∷ [] = search rules in
    let i = c.loop-from.invariant in
    let to = c.end_of-to.ensures in
    let more = to.more in
    let within = to.within in
    let few = to.few in
    let rest = to.rest in
    let half = to.half in
    let left = i.left in
    let many = c.requires.many in
    let good = is_cut g.P.Placed.rows g.P.Part.is_part g.P.Part.is_full parts n (m - n) (omega (arith, many)) c.requires.full c.requires.good c.requires.rising (omega (arith, more)) (omega (arith, more, few)) (omega (arith, more, within)) in
    let long : length (take (m - n) (drop n parts)) ≡ m - n = grind (arith, common_steps, more, within) in
    let enough : 16 ≤ m - n = grind (arith, common_steps, more, within, rest, half, left) in
    let nodes_good = i.nodes in
    let nodes_full = i.full in
    record {
      within = within;
      rows = ap (in_nodes g.P.Placed.rows) new ∙ (node_more g.P.Placed.rows c.loop-from.nodes.items (take (m - n) (drop n parts))
          ∙ (ap (λ r. r ++ flat_map g.P.Placed.rows (take (m - n) (drop n parts))) i.rows ∙ sym (flat_take_part g.P.Placed.rows n m parts (omega (arith, more)))));
      nodes = ap (list_all (is_node g.P.Placed.rows g.P.Part.is_part g.P.Part.is_full)) new ∙ grind (arith, nat_tests, list_all-append (is_node g.P.Placed.rows g.P.Part.is_part g.P.Part.is_full) c.loop-from.nodes.items (take (m - n) (drop n parts) ∷ []));
      left = λ lt. grind (arith, common_steps, lt, rest, half);
      full = ap (list_all is_full_node) new ∙ grind (arith, nat_tests, list_all-append is_full_node c.loop-from.nodes.items (take (m - n) (drop n parts) ∷ []));
    }
