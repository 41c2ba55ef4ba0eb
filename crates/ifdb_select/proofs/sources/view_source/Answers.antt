use Rattle.std.proofs.Common.{◌≡◌, IfOk, ap, sym, subst, ◌∙◌}
use Rattle.ifdb_bound.specs.declared.schema.ViewDef.{ViewDef}
use Rattle.ifdb_catalog.specs.Scope.{view_columns}
use Rattle.ifdb_select.proofs.Columns.{made_is_even, made_view, no_view_at}
use Rattle.ifdb_select.proofs.sources.view_source.Goals as goal

pub made_view_source-requires : goal.made_view_source-requires
made_view_source-requires c = made_is_even c.args.catalog.now c.args.view _ c.in-Some.ensures.fits (sym c.in-Some.ensures.value)

pub returns-in-Some : goal.returns-in-Some
returns-in-Some c =
    let p = c.args.catalog.now in
    subst (λ (v : ViewDef). IfOk c.made_view_source.result (λ s. s ≡ record { alias = c.args.alias.now; columns = view_columns p v }))
    (made_view p c.args.view _ (sym c.in-Some.ensures.value)) c.made_view_source.ensures

pub returns-in-None : goal.returns-in-None
returns-in-None c =
    let p = c.args.catalog.now in
    c.table.ensures
    ∙ ap (λ (v : ViewDef). record { alias = c.args.alias.now; columns = view_columns p v }) (no_view_at p c.args.view (sym c.in-None.ensures.value))
