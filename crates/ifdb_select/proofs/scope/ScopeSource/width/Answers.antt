use Rattle.std.proofs.Common.{◌≡◌, List, ap, sym, subst, ◌∙◌, length}
use Rattle.ifdb_value.specs.declared.column.Column.{Column}
use Rattle.ifdb_catalog.specs.Scope.{ScopeSource, columns_of}
use Rattle.ifdb_select.specs.Sources.{are_even, listed}
use Rattle.ifdb_select.proofs.ColumnKinds.{width_of_columns}
use Rattle.ifdb_select.proofs.scope.ScopeSource.width.Goals as goal

pub returns-in-View : goal.returns-in-View
returns-in-View c =
    let names = c.in-View.names.now in
    let kinds = c.in-View.field-1 in
    let even : length names ≡ length kinds = subst are_even c.in-View.is c.self.invariant in
    let columns : c.args.self.now.columns ≡ columns_of names kinds = sym (ap (λ (s : ScopeSource). s.columns) c.self.view_is) ∙ ap listed c.in-View.is in
    sym (width_of_columns names kinds even) ∙ ap (λ (l : List Column). length l) (sym columns)
