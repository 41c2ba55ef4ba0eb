use Rattle.std.proofs.Common.{◌≡◌, [], List, length, map, subst, sym, ap, ◌∙◌, filter}
use Rattle.ifdb_bound.specs.declared.select.BoundSource.{BoundSource}
use Rattle.ifdb_bound.specs.Conditions.{passes}
use Rattle.ifdb_bound.specs.Query.{SourceRow, Combination, all_some, combinations, values_of}
use Rattle.ifdb_expr.specs.Tells.{Tells}
use Rattle.ifdb_expr.specs.View.{base_rows, view_row}
use Rattle.ifdb_exec.specs.Given.{rows_given}
use Rattle.ifdb_view.specs.Made.{setting}
use Rattle.ifdb_view.proofs.Giving.{as_long}
use Rattle.ifdb_view.proofs.Making.{matches_made}
use Rattle.ifdb_view.proofs.view_rows.rows_of.Goals as goal

pub matching-requires-clause-room : goal.matching-requires-clause-room
matching-requires-clause-room g c =
    as_long (rows_given [] [] []) (λ (s : BoundSource). base_rows [] [] [] s.relation) c.deref.result.now c.args.view.now.select.sources
    (ap (map (rows_given [] [] [])) c.deref.ensures.value ∙ c.in_ok-bases.ensures.rows [] [] [] ∙ ap (map (λ (s : BoundSource). base_rows [] [] [] s.relation)) c.items.ensures) c.requires.room

pub each_row-requires-clause-made : goal.each_row-requires-clause-made
each_row-requires-clause-made g c =
    let tags = c.args.reading.now.tags.now in
    let rows = g.R.Rows.rows c.args.rows.now in
    matches_made (length tags) tags rows c.in_ok-wide.wide c.items.result.now (λ (c' : Combination). passes c.args.view.now.select.cond (values_of c'))
    (map (rows_given tags rows c.in_ok-wide.wide) c.deref.result.now) c.items-2.result.now c.requires.rows_made
    (ap (map (rows_given tags rows c.in_ok-wide.wide)) c.deref.ensures.value ∙ c.in_ok-bases.ensures.rows tags rows c.in_ok-wide.wide) (c.items-2.ensures ∙ c.in_ok-frames.ensures)

pub returns : goal.returns
returns g c views allows =
    let tags = c.args.reading.now.tags.now in
    let rows = g.R.Rows.rows c.args.rows.now in
    let sources = c.args.view.now.select.sources in
    let keeps : Combination → Rattle.std.proofs.Common.Bool = λ c'. passes c.args.view.now.select.cond (values_of c') in
    subst (λ (l : List Combination). Tells (all_some (map (view_row (setting tags c.args.reading.now.names.now views allows) c.args.view.now) l)) c.each_row.result)
    (c.items-2.ensures ∙ c.in_ok-frames.ensures
    ∙ ap (λ (l : List (List SourceRow)). filter keeps (combinations l))
    (ap (map (rows_given tags rows c.in_ok-wide.wide)) c.deref.ensures.value ∙ c.in_ok-bases.ensures.rows tags rows c.in_ok-wide.wide
    ∙ (λ i. map (λ (s : BoundSource). base_rows tags rows (c.in_ok-wide.ensures.value i) s.relation) (c.items.ensures i))))
    (c.each_row.ensures views allows)
