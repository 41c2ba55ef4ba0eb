use Rattle.std.proofs.Common.{◌≡◌, ◌<◌, arith, length, rules, subst, true}
use Rattle.std.proofs.lemmas.Bool.Decides.{nat_tests}
use Rattle.ifdb_row.proofs.TableWalks.{is_true}
use Rattle.ifdb_store.specs.Pages.{Divides, Leaves}
use Rattle.ifdb_store.proofs.InPlace.{all_set, all_set_same, put_part}
use Rattle.ifdb_store.proofs.PartLemmas.{part_at}
use Rattle.ifdb_store.proofs.part.put_in.Goals as goal

pub returns-clause-rows : goal.returns-clause-rows
returns-clause-rows g c =
    let rows = g.P.Placed.rows in
    let begins = g.met.P.Part.begins in
    let parts = c.args.parts.now in
    let ws = c.args.writes.now in
    let at = c.untouched-at.result in
    let x = c.at_mut-part.result.now in
    let y = c.put.new.self in
    let lt : at < length parts = search rules in
    let good = part_at rows g.P.Placed.place g.P.Part.is_part begins parts at x lt c.at_mut-part.ensures.value (is_true _ c.requires.parts) in
    let leaves = subst (λ ps. Leaves rows ps ws at) c.items.ensures c.untouched-at.ensures.rows in
    let within : c.are_within.result ≡ true = search rules in
    let divides = subst (λ ps. Divides rows ps at ws (length ws)) c.items-2.ensures (c.are_within.ensures within) in
    put_part rows parts at x y lt c.at_mut-part.ensures.value (g.P.Placed.place x) (g.P.Placed.place y) ws c.put.result (begins x good) (begins y (is_true _ c.put.ensures.part)) leaves divides c.put.ensures.rows

pub returns-clause-parts : goal.returns-clause-parts
returns-clause-parts g c =
    let all = all_set g.P.Part.is_part c.args.parts.now c.untouched-at.result c.put.new.self (is_true _ c.requires.parts) (is_true _ c.put.ensures.part) in
    grind (arith, nat_tests, all)

pub returns-clause-full : goal.returns-clause-full
returns-clause-full g c = all_set_same g.P.Part.is_full c.args.parts.now c.untouched-at.result c.at_mut-part.result.now c.put.new.self c.at_mut-part.ensures.value c.put.ensures.full
