use Rattle.std.proofs.Common.{◌≡◌, ℕ, List, ap, sym, subst, ◌∙◌, length}
use Rattle.std.proofs.lemmas.List.{map-id}
use Rattle.ifdb_value.specs.declared.column.Column.{Column}
use Rattle.ifdb_catalog.specs.Scope.{ScopeSource, columns_of}
use Rattle.ifdb_select.specs.Sources.{are_even, listed}
use Rattle.ifdb_catalog.specs.Scope.{places_named}
use Rattle.ifdb_select.specs.Meaning.{columns_called, meaning}
use Rattle.ifdb_select.proofs.ColumnKinds.{names_of_columns}
use Rattle.ifdb_select.proofs.Meanings.{places_by_names}
use Rattle.ifdb_select.proofs.scope.ScopeSource.meaning.Goals as goal

pub returns-in-View : goal.returns-in-View
returns-in-View c =
    let names = c.in-View.names.now in
    let kinds = c.in-View.field-1 in
    let even : length names ≡ length kinds = subst are_even c.in-View.is c.self.invariant in
    let columns : c.args.self.now.columns ≡ columns_of names kinds = sym (ap (λ (s : ScopeSource). s.columns) c.self.view_is) ∙ ap listed c.in-View.is in
    let name = c.args.name.now in
    let source = c.args.source in
    c.meaning_from-in-View.ensures
    ∙ (ap (λ (l : List (List ℕ)). meaning (columns_called name source 0 l)) (map-id names ∙ sym (names_of_columns names kinds even))
    ∙ (ap meaning (sym (places_by_names name source 0 (columns_of names kinds)))
    ∙ ap (λ (l : List Column). meaning (places_named name source 0 l)) (sym columns)))

pub returns-in-Table : goal.returns-in-Table
returns-in-Table c =
    let name = c.args.name.now in
    let source = c.args.source in
    let columns = c.in-Table.columns.now in
    let same : c.args.self.now.columns ≡ columns = sym (ap (λ (s : ScopeSource). s.columns) c.self.view_is) ∙ ap listed c.in-Table.is in
    c.meaning_from.ensures
    ∙ (ap meaning (sym (places_by_names name source 0 columns))
    ∙ ap (λ (l : List Column). meaning (places_named name source 0 l)) (sym same))
