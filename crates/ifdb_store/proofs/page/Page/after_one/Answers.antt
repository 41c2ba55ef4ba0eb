use Rattle.std.proofs.Common.{◌≡◌, ◌∙◌, ap, arith, length, subst, sym, true}
use Rattle.std.specs.Prelude.{IfSome}
use Rattle.ifdb_row.specs.Content.{after, place, rising}
use Rattle.ifdb_row.proofs.ContentLaws.{rising_after}
use Rattle.ifdb_store.specs.Layouts.{rows_laid}
use Rattle.ifdb_store.proofs.Splicing.{one_write}
use Rattle.ifdb_store.proofs.page.Page.after_one.Goals as goal

pub page_if_fits-requires : goal.page_if_fits-requires
page_if_fits-requires c =
    let laid : c.args.self.now ≡ c.in-Even-len1.rows = sym c.self.view_is ∙ ap rows_laid c.in-Even-len1.is-0 in
    let w = c.write-item.result in
    let put : c.in-Some.rows ≡ place w.slot w.row c.in-Even-len1.rows = subst (λ o. IfSome o (λ rows. rows ≡ place w.slot w.row c.in-Even-len1.rows)) c.in-Some.is c.in_ok-rows.ensures in
    let one : length c.args.writes.now ≡ 1 = omega (arith, c.in-Even-len1.len_at_least, c.in-Even-len1.len_below) in
    let all : c.in-Some.rows ≡ after c.args.self.now c.args.writes.now =
    put ∙ (sym (ap (place w.slot w.row) laid) ∙ sym (one_write c.args.self.now c.args.writes.now w one c.write-item.is)) in
    let rises : rising c.args.self.now ≡ true = sym (ap rising c.rows.ensures.rows) ∙ c.rows.ensures.rising in
    ap rising all ∙ rising_after c.args.self.now c.args.writes.now c.requires rises

pub returns-in-Some : goal.returns-in-Some
returns-in-Some c =
    let laid : c.args.self.now ≡ c.in-Even-len1.rows = sym c.self.view_is ∙ ap rows_laid c.in-Even-len1.is-0 in
    let w = c.write-item.result in
    let put : c.in-Some.rows ≡ place w.slot w.row c.in-Even-len1.rows = subst (λ o. IfSome o (λ rows. rows ≡ place w.slot w.row c.in-Even-len1.rows)) c.in-Some.is c.in_ok-rows.ensures in
    let one : length c.args.writes.now ≡ 1 = omega (arith, c.in-Even-len1.len_at_least, c.in-Even-len1.len_below) in
    let all : c.in-Some.rows ≡ after c.args.self.now c.args.writes.now =
    put ∙ (sym (ap (place w.slot w.row) laid) ∙ sym (one_write c.args.self.now c.args.writes.now w one c.write-item.is)) in
    subst (λ rows. IfSome c.page_if_fits.result (λ page. page ≡ rows)) all c.page_if_fits.ensures
