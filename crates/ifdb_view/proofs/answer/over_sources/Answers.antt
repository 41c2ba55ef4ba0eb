use Rattle.std.proofs.Common.{◌≤◌, length, sym, subst, List}
use Rattle.ifdb_bound.specs.declared.select.BoundSource.{BoundSource}
use Rattle.ifdb_expr.specs.Query.{source_rows}
use Rattle.ifdb_exec.specs.Given.{rows_given}
use Rattle.ifdb_view.specs.Made.{setting}
use Rattle.ifdb_view.proofs.Giving.{given_long}
use Rattle.ifdb_view.proofs.answer.over_sources.Goals as goal

pub over_given-requires-clause-room : goal.over_given-requires-clause-room
over_given-requires-clause-room g c =
    given_long (rows_given c.args.reading.now.tags.now (g.R.Rows.rows c.args.rows.now) c.args.reading.now.label.now) (λ (x : BoundSource). source_rows (setting c.args.reading.now.tags.now c.args.reading.now.names.now (g.V.Views.views c.args.views.now) (g.V.Views.allows c.args.views.now)) (g.R.Rows.rows c.args.rows.now) c.args.reading.now.label.now x.relation) c.in-Ok.given c.items.result.now c.in-Ok.ensures.rows
    (subst (λ (l : List BoundSource). length l ≤ 4) (sym c.items.ensures) c.requires.room)
