use Rattle.std.proofs.Common.{◌≡◌, ℕ, List, ap, sym, subst, ◌∙◌, length}
use Rattle.ifdb_value.specs.declared.column.Column.{Column}
use Rattle.ifdb_catalog.specs.Scope.{ScopeSource, columns_of}
use Rattle.ifdb_select.specs.Sources.{are_even, listed}
use Rattle.std.specs.Prelude.{bytes_eq, position}
use Rattle.ifdb_catalog.specs.Statements.{place_named}
use Rattle.ifdb_select.proofs.ColumnKinds.{names_of_columns, place_by_names}
use Rattle.ifdb_select.proofs.scope.ScopeSource.place.Goals as goal

pub returns-in-View : goal.returns-in-View
returns-in-View c =
    let names = c.in-View.names.now in
    let kinds = c.in-View.field-1 in
    let even : length names ≡ length kinds = subst are_even c.in-View.is c.self.invariant in
    let columns : c.args.self.now.columns ≡ columns_of names kinds = sym (ap (λ (s : ScopeSource). s.columns) c.self.view_is) ∙ ap listed c.in-View.is in
    let name = c.args.name.now in
    c.place_named-in-View.ensures
    ∙ (ap (λ (l : List (List ℕ)). position (λ n. bytes_eq n name) l) (sym (names_of_columns names kinds even))
    ∙ (sym (place_by_names name (columns_of names kinds)) ∙ ap (λ (l : List Column). place_named l name) (sym columns)))
