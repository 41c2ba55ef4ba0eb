use Rattle.std.proofs.Common.{sym, ap, ◌∙◌, map, List}
use Rattle.std.proofs.lemmas.List.{take_all}
use Rattle.ifdb_bound.specs.declared.select.BoundSource.{BoundSource}
use Rattle.ifdb_bound.specs.Query.{all_some}
use Rattle.ifdb_expr.specs.Query.{source_rows}
use Rattle.ifdb_exec.specs.Given.{rows_given}
use Rattle.ifdb_group.proofs.Collecting.{all_there, one_missing}
use Rattle.ifdb_view.specs.Keyed.{are_sources_keyed}
use Rattle.ifdb_view.specs.Made.{setting}
use Rattle.ifdb_view.proofs.Giving.{by_goes_on}
use Rattle.ifdb_view.proofs.sources.given.Goals as goal

pub returns-in-Err-clause-rows : goal.returns-in-Err-clause-rows
returns-in-Err-clause-rows g c =
    let rows = rows_given c.args.reading.now.tags.now (g.R.Rows.rows c.args.rows.now) c.args.reading.now.label.now in
    by_goes_on rows (map rows) ((λ (x : BoundSource). source_rows (setting c.args.reading.now.tags.now c.args.reading.now.names.now (g.V.Views.views c.args.views.now) (g.V.Views.allows c.args.views.now)) (g.R.Rows.rows c.args.rows.now) c.args.reading.now.label.now x.relation) c.source-item.result) (all_some (map (λ (x : BoundSource). source_rows (setting c.args.reading.now.tags.now c.args.reading.now.names.now (g.V.Views.views c.args.views.now) (g.V.Views.allows c.args.views.now)) (g.R.Rows.rows c.args.rows.now) c.args.reading.now.label.now x.relation) c.args.sources.now)) c.in-Err.fault
    (one_missing (λ (x : BoundSource). source_rows (setting c.args.reading.now.tags.now c.args.reading.now.names.now (g.V.Views.views c.args.views.now) (g.V.Views.allows c.args.views.now)) (g.R.Rows.rows c.args.rows.now) c.args.reading.now.label.now x.relation) c.args.sources.now c.loop-source.source-index c.source-item.result c.loop-source-test.true c.source-item.is) c.in-Err.ensures.rows

pub returns-clause-rows : goal.returns-clause-rows
returns-clause-rows g c =
    ap (λ (l : List BoundSource). all_some (map (λ (x : BoundSource). source_rows (setting c.args.reading.now.tags.now c.args.reading.now.names.now (g.V.Views.views c.args.views.now) (g.V.Views.allows c.args.views.now)) (g.R.Rows.rows c.args.rows.now) c.args.reading.now.label.now x.relation) l)) (sym (take_all c.loop-source.source-index c.args.sources.now c.loop-source-test.false))
    ∙ ap all_some c.loop-source.invariant.rows ∙ all_there (map (rows_given c.args.reading.now.tags.now (g.R.Rows.rows c.args.rows.now) c.args.reading.now.label.now) c.loop-source.all)

pub returns-clause-keyed : goal.returns-clause-keyed
returns-clause-keyed g c h =
    c.loop-source.invariant.keyed (ap (are_sources_keyed (g.R.Rows.rows c.args.rows.now)) (take_all c.loop-source.source-index c.args.sources.now c.loop-source-test.false) ∙ h)
