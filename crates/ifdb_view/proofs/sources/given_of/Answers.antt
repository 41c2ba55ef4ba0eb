use Rattle.std.proofs.Common.{length, sym, ap, ◌∙◌}
use Rattle.std.specs.Option.{option_copied}
use Rattle.ifdb_expr.specs.Query.{source_rows}
use Rattle.ifdb_expr.specs.View.{view_rows}
use Rattle.ifdb_exec.specs.Given.{rows_given}
use Rattle.ifdb_view.specs.Made.{setting}
use Rattle.ifdb_view.proofs.Giving.{by_fault, source_is}
use Rattle.ifdb_view.proofs.Making.{view_keyed, view_made}
use Rattle.ifdb_view.proofs.sources.given_of.Goals as goal

pub rows_of-requires-clause-given_made : goal.rows_of-requires-clause-given_made
rows_of-requires-clause-given_made g c =
    (view_made (length c.args.reading.now.tags.now) (g.V.Views.views c.args.views.now) c.in-View.id c.in-Some.view.now (sym c.view.ensures ∙ ap option_copied c.in-Some.is) c.requires.views_made).0

pub rows_of-requires-clause-room : goal.rows_of-requires-clause-room
rows_of-requires-clause-room g c =
    (view_made (length c.args.reading.now.tags.now) (g.V.Views.views c.args.views.now) c.in-View.id c.in-Some.view.now (sym c.view.ensures ∙ ap option_copied c.in-Some.is) c.requires.views_made).1

pub returns-in-Err-clause-rows : goal.returns-in-Err-clause-rows
returns-in-Err-clause-rows g c =
    let set = (setting c.args.reading.now.tags.now c.args.reading.now.names.now (g.V.Views.views c.args.views.now) (g.V.Views.allows c.args.views.now)) in
    let rows = g.R.Rows.rows c.args.rows.now in
    by_fault (rows_given c.args.reading.now.tags.now rows c.args.reading.now.label.now) (source_rows set rows c.args.reading.now.label.now c.args.source.now.relation) (view_rows set rows c.args.reading.now.label.now c.in-Some.view.now) c.in-Err.fault
    (source_is set rows c.args.reading.now.label.now c.args.source.now.relation c.in-View.id c.in-Some.view.now c.in-View.is (sym c.view.ensures ∙ ap option_copied c.in-Some.is))
    (c.in-Err.ensures (g.V.Views.views c.args.views.now) (g.V.Views.allows c.args.views.now))

pub rows_of-requires-clause-keyed : goal.rows_of-requires-clause-keyed
rows_of-requires-clause-keyed g c =
    view_keyed (g.R.Rows.rows c.args.rows.now) (g.V.Views.views c.args.views.now) c.in-View.id c.in-Some.view.now (sym c.view.ensures ∙ ap option_copied c.in-Some.is) c.requires.views_keyed
