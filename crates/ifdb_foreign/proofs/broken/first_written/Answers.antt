use Rattle.std.proofs.Common.{◌≡◌, ◌<◌, ◌∙◌, get_or, length, rules, sym}
use Rattle.ifdb_row.specs.ByReference.{row_of}
use Rattle.ifdb_row.specs.Verdict.{is_left}
use Rattle.ifdb_foreign.proofs.AfterWrites.{first_given}
use Rattle.ifdb_foreign.proofs.broken.first_written.Goals as goal

pub returns-in-Some : goal.returns-in-Some
returns-in-Some c =
    let items = c.loop-items.items.now in
    let some : 0 < length items = search rules in
    let at : c.write-item.result ≡ get_or items 0 c.write-item.result = search rules in
    first_given (is_left c.args.writes.now) items c.write-item.result (row_of c.in-Some.row) some at c.in-Some.ensures c.loop-items.invariant.rising c.loop-items.invariant.fitting
    ∙ sym c.loop-items.invariant.same
