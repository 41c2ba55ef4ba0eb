use Rattle.std.proofs.Common.{◌≡◌, true, sym, ap, ◌∙◌}
use Rattle.ifdb_row.specs.Content.{rising}
use Rattle.ifdb_row.specs.Questions.{earlier}
use Rattle.ifdb_row.specs.Writes.{are_rising, are_fitting}
use Rattle.ifdb_row.specs.Verdict.{is_left}
use Rattle.ifdb_foreign.specs.Left.{first_written}
use Rattle.ifdb_foreign.proofs.AfterWrites.{is_true, find_after}
use Rattle.ifdb_foreign.proofs.broken.first_child.Goals as goal

pub returns : goal.returns
returns g c =
    let rows = g.R.Rows.rows c.args.before.now in
    let ws = c.args.writes.now in
    let up : are_rising ws ≡ true = ap are_rising (sym c.items.ensures.items) ∙ is_true _ c.items.ensures.rising in
    let fit : are_fitting ws ≡ true = ap are_fitting (sym c.items.ensures.items) ∙ is_true _ c.items.ensures.fitting in
    let written = c.first_written-written.ensures ∙ ap (first_written (is_left ws)) c.items.ensures.items in
    c.earlier.ensures
    ∙ (λ i. earlier (c.first_kept-kept.ensures.row i) (written i))
    ∙ sym (find_after (is_left ws) rows ws (is_true (rising rows) c.first_kept-kept.ensures.rising) up fit)
