use Rattle.std.proofs.Common.{◌≡◌, true, sym, ap, ◌∙◌, map, refl, subst, Err}
use Rattle.std.specs.Prelude.{option_and_then}
use Rattle.std.specs.List.{list_all}
use Rattle.ifdb_bound.specs.declared.select.BoundSource.{BoundSource}
use Rattle.ifdb_bound.specs.Query.{all_some, select}
use Rattle.ifdb_expr.specs.Query.{answered, is_allowed, query, source_rows}
use Rattle.ifdb_view.specs.declared.fault.ViewFault.{ViewFault}
use Rattle.ifdb_view.specs.Faults.{TellsQuery}
use Rattle.ifdb_view.specs.Made.{setting}
use Rattle.ifdb_view.proofs.Giving.{answer_goes_on, query_refused, query_told}
use Rattle.ifdb_view.proofs.answer.query.Goals as goal

pub returns-then-not-are_allowed : goal.returns-then-not-are_allowed
returns-then-not-are_allowed g c =
    query_refused (setting c.args.reading.now.tags.now c.args.reading.now.names.now (g.V.Views.views c.args.views.now) (g.V.Views.allows c.args.views.now)) (g.R.Rows.rows c.args.rows.now) c.args.reading.now.label.now c.args.request.now
    (sym (c.in_ok-are_allowed.ensures c.args.reading.now.tags.now c.args.reading.now.names.now ∙ ap (list_all (λ (x : BoundSource). is_allowed (setting c.args.reading.now.tags.now c.args.reading.now.names.now (g.V.Views.views c.args.views.now) (g.V.Views.allows c.args.views.now)) x.relation)) c.items.ensures) ∙ c.if-not-are_allowed.true)

pub over_sources-requires-clause-allowed : goal.over_sources-requires-clause-allowed
over_sources-requires-clause-allowed g c =
    sym (c.in_ok-are_allowed.ensures c.args.reading.now.tags.now c.args.reading.now.names.now ∙ ap (list_all (λ (x : BoundSource). is_allowed (setting c.args.reading.now.tags.now c.args.reading.now.names.now (g.V.Views.views c.args.views.now) (g.V.Views.allows c.args.views.now)) x.relation)) c.items.ensures) ∙ c.if-not-are_allowed.false

pub returns-in-Ok : goal.returns-in-Ok
returns-in-Ok g c =
    let allowed : list_all (λ (x : BoundSource). is_allowed (setting c.args.reading.now.tags.now c.args.reading.now.names.now (g.V.Views.views c.args.views.now) (g.V.Views.allows c.args.views.now)) x.relation) c.args.request.now.sources ≡ true =
    sym (c.in_ok-are_allowed.ensures c.args.reading.now.tags.now c.args.reading.now.names.now ∙ ap (list_all (λ (x : BoundSource). is_allowed (setting c.args.reading.now.tags.now c.args.reading.now.names.now (g.V.Views.views c.args.views.now) (g.V.Views.allows c.args.views.now)) x.relation)) c.items.ensures) ∙ c.if-not-are_allowed.false in
    query_told (setting c.args.reading.now.tags.now c.args.reading.now.names.now (g.V.Views.views c.args.views.now) (g.V.Views.allows c.args.views.now)) (g.R.Rows.rows c.args.rows.now) c.args.reading.now.label.now c.args.request.now (all_some (map (λ (x : BoundSource). source_rows (setting c.args.reading.now.tags.now c.args.reading.now.names.now (g.V.Views.views c.args.views.now) (g.V.Views.allows c.args.views.now)) (g.R.Rows.rows c.args.rows.now) c.args.reading.now.label.now x.relation) c.args.request.now.sources)) allowed refl ∙ ap answered c.in-Ok.ensures

pub returns-in-Err : goal.returns-in-Err
returns-in-Err g c =
    let allowed : list_all (λ (x : BoundSource). is_allowed (setting c.args.reading.now.tags.now c.args.reading.now.names.now (g.V.Views.views c.args.views.now) (g.V.Views.allows c.args.views.now)) x.relation) c.args.request.now.sources ≡ true =
    sym (c.in_ok-are_allowed.ensures c.args.reading.now.tags.now c.args.reading.now.names.now ∙ ap (list_all (λ (x : BoundSource). is_allowed (setting c.args.reading.now.tags.now c.args.reading.now.names.now (g.V.Views.views c.args.views.now) (g.V.Views.allows c.args.views.now)) x.relation)) c.items.ensures) ∙ c.if-not-are_allowed.false in
    let whole = query (setting c.args.reading.now.tags.now c.args.reading.now.names.now (g.V.Views.views c.args.views.now) (g.V.Views.allows c.args.views.now)) (g.R.Rows.rows c.args.rows.now) c.args.reading.now.label.now c.args.request.now in
    let told = query_told (setting c.args.reading.now.tags.now c.args.reading.now.names.now (g.V.Views.views c.args.views.now) (g.V.Views.allows c.args.views.now)) (g.R.Rows.rows c.args.rows.now) c.args.reading.now.label.now c.args.request.now (all_some (map (λ (x : BoundSource). source_rows (setting c.args.reading.now.tags.now c.args.reading.now.names.now (g.V.Views.views c.args.views.now) (g.V.Views.allows c.args.views.now)) (g.R.Rows.rows c.args.rows.now) c.args.reading.now.label.now x.relation) c.args.request.now.sources)) allowed refl in
    subst (λ (f : ViewFault). TellsQuery whole (Err f)) (sym c.from.ensures)
    (answer_goes_on (option_and_then (select c.args.reading.now.names.now c.args.request.now) (all_some (map (λ (x : BoundSource). source_rows (setting c.args.reading.now.tags.now c.args.reading.now.names.now (g.V.Views.views c.args.views.now) (g.V.Views.allows c.args.views.now)) (g.R.Rows.rows c.args.rows.now) c.args.reading.now.label.now x.relation) c.args.request.now.sources))) whole c.in-Err.fault (λ n. told ∙ ap answered n) c.in-Err.ensures)
