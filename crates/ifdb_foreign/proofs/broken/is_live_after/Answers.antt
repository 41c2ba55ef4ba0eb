use Rattle.std.proofs.Common.{◌≡◌, true, sym, ap, ◌∙◌}
use Rattle.ifdb_row.specs.Content.{live, rising}
use Rattle.ifdb_row.specs.Writes.{are_rising, are_fitting}
use Rattle.ifdb_foreign.proofs.AfterWrites.{is_true, some_row, stands_after, live_after_writes}
use Rattle.ifdb_foreign.proofs.broken.is_live_after.Goals as goal

pub returns-in-Some : goal.returns-in-Some
returns-in-Some g c =
    let rows = g.R.Rows.rows c.args.before.now in
    let up : are_rising c.args.writes.now ≡ true = ap are_rising (sym c.items.ensures.items) ∙ is_true _ c.items.ensures.rising in
    let fit : are_fitting c.args.writes.now ≡ true = ap are_fitting (sym c.items.ensures.items) ∙ is_true _ c.items.ensures.fitting in
    let law = live_after_writes rows c.args.writes.now c.args.slot.now (is_true (rising rows) c.is_live-stood.ensures.rising) up fit in
    c.is_some.ensures ∙ some_row c.in-Some.write.now.row ∙ ap (stands_after (live rows c.args.slot.now)) c.in-Some.ensures ∙ law

pub returns-in-None : goal.returns-in-None
returns-in-None g c =
    let rows = g.R.Rows.rows c.args.before.now in
    let up : are_rising c.args.writes.now ≡ true = ap are_rising (sym c.items.ensures.items) ∙ is_true _ c.items.ensures.rising in
    let fit : are_fitting c.args.writes.now ≡ true = ap are_fitting (sym c.items.ensures.items) ∙ is_true _ c.items.ensures.fitting in
    let law = live_after_writes rows c.args.writes.now c.args.slot.now (is_true (rising rows) c.is_live-stood.ensures.rising) up fit in
    c.is_live-stood.ensures.live ∙ ap (stands_after (live rows c.args.slot.now)) c.in-None.ensures ∙ law
