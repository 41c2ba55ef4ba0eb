use Rattle.std.proofs.Common.{◌≡◌, ◌++◌, ℕ, List, Some, ap, sym, subst, ◌∙◌, length, map}
use Rattle.std.specs.Prelude.{OnOk}
use Rattle.std.proofs.lemmas.List.{map-id}
use Rattle.ifdb_value.specs.declared.column.Column.{Column}
use Rattle.ifdb_catalog.specs.Scope.{ScopeSource, columns_of}
use Rattle.ifdb_select.specs.Sources.{are_even, listed}
use Rattle.ifdb_select.proofs.ColumnKinds.{names_of_columns}
use Rattle.ifdb_select.proofs.scope.ScopeSource.add_names.Goals as goal

pub returns-in-View : goal.returns-in-View
returns-in-View c =
    let names = c.in-View.view_names.now in
    let kinds = c.in-View.field-1 in
    let even : length names ≡ length kinds = subst are_even c.in-View.is c.self.invariant in
    let columns : c.args.self.now.columns ≡ columns_of names kinds = sym (ap (λ (s : ScopeSource). s.columns) c.self.view_is) ∙ ap listed c.in-View.is in
    let named = λ (l : List Column). map (λ (c : Column). c.name) l in
    subst (λ (l : List (List ℕ)). OnOk c.add_named-in-View.result (c.add_named-in-View.new.names ≡ c.args.names.now ++ map Some l))
    (map-id names ∙ (sym (names_of_columns names kinds even) ∙ ap named (sym columns))) c.add_named-in-View.ensures
