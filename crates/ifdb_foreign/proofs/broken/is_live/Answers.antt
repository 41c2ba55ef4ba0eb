use Rattle.std.proofs.Common.{◌∙◌, ap}
use Rattle.std.specs.Prelude.{is_some}
use Rattle.ifdb_row.specs.Questions.{row_at}
use Rattle.ifdb_row.proofs.Children.{live_at}
use Rattle.ifdb_foreign.proofs.broken.is_live.Goals as goal

pub returns-in-Some-clause-live : goal.returns-in-Some-clause-live
returns-in-Some-clause-live g c = ap is_some (c.in-Some.ensures.row ∙ ap (λ s. row_at s (g.R.Rows.rows c.args.rows.now)) c.by_ref.ensures) ∙ live_at c.args.slot.now (g.R.Rows.rows c.args.rows.now)

pub returns-in-None-clause-live : goal.returns-in-None-clause-live
returns-in-None-clause-live g c = ap is_some (c.in-None.ensures.row ∙ ap (λ s. row_at s (g.R.Rows.rows c.args.rows.now)) c.by_ref.ensures) ∙ live_at c.args.slot.now (g.R.Rows.rows c.args.rows.now)
