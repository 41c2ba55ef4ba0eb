use Rattle.std.proofs.Common.{◌≡◌, true, sym, ap, ◌∙◌, arith}
use Rattle.std.proofs.lemmas.Bool.Decides.{nat_tests}
use Rattle.ifdb_row.specs.Writes.{are_rising}
use Rattle.ifdb_foreign.proofs.AfterWrites.{is_true, some_row, empties, deletes_at}
use Rattle.ifdb_foreign.proofs.broken.empties.Goals as goal

pub returns-in-Some : goal.returns-in-Some
returns-in-Some c =
    let up : are_rising c.args.writes.now ≡ true = ap are_rising (sym c.items.ensures.items) ∙ is_true _ c.items.ensures.rising in
    let told = ap empties c.in-Some.ensures ∙ deletes_at c.args.writes.now c.args.slot.now up in
    let some = some_row c.in-Some.write.now.row in
    grind (arith, nat_tests)

pub returns-in-None : goal.returns-in-None
returns-in-None c =
    let up : are_rising c.args.writes.now ≡ true = ap are_rising (sym c.items.ensures.items) ∙ is_true _ c.items.ensures.rising in
    ap empties c.in-None.ensures ∙ deletes_at c.args.writes.now c.args.slot.now up
