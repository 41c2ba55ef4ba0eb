use Rattle.std.proofs.Common.{◌≡◌, ◌∙◌, ◌&&◌, Bool, true, List, ap, sym}
use Rattle.std.specs.List.{list_all}
use Rattle.ifdb_bound.specs.declared.select.BoundItem.{BoundItem}
use Rattle.ifdb_bound.specs.declared.select.BoundSelect.{BoundSelect}
use Rattle.ifdb_bound.specs.Kinds.{has_one, item_kind}
use Rattle.ifdb_catalog.specs.Scope.{kinds_in}
use Rattle.ifdb_catalog.specs.Queries.{select_fits}
use Rattle.ifdb_catalog.specs.Definitions.{have_kinds}
use Rattle.ifdb_bind.proofs.views.shows_columns.Goals as goal

pub returns-then-select_fits : goal.returns-then-select_fits
returns-then-select_fits c =
    let scope = c.args.scope.now in
    let fits : select_fits c.args.catalog.now scope c.args.query.now ≡ true = sym c.select_fits.ensures ∙ c.if-select_fits.true in
    let kinds : c.have_one_kind.result ≡ have_kinds scope c.args.query.now = c.have_one_kind.ensures
    ∙ ap (λ (items : List BoundItem). list_all (λ i. has_one (item_kind (kinds_in scope) i)) items) (c.items.ensures ∙ ap (λ (t : BoundSelect). t.items) c.requires) in
    kinds ∙ ap (λ (b : Bool). b && have_kinds scope c.args.query.now) (sym fits)
