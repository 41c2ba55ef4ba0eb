use Rattle.std.proofs.Common.{◌≡◌, List, ap, sym, subst, ◌∙◌, length}
use Rattle.ifdb_catalog.specs.Scope.{ScopeSource, columns_of}
use Rattle.ifdb_select.specs.Sources.{are_even, listed}
use Rattle.std.specs.Prelude.{slice_get}
use Rattle.ifdb_value.specs.declared.value.ValueKind.{ValueKind}
use Rattle.ifdb_catalog.specs.Scope.{kinds_of}
use Rattle.ifdb_select.proofs.ColumnKinds.{kinds_of_columns}
use Rattle.ifdb_select.proofs.scope.ScopeSource.kind.Goals as goal

pub returns-in-View : goal.returns-in-View
returns-in-View c =
    let names = c.in-View.field-0.now in
    let kinds = c.in-View.kinds in
    let even : length names ≡ length kinds = subst are_even c.in-View.is c.self.invariant in
    let columns : c.args.self.now.columns ≡ columns_of names kinds = sym (ap (λ (s : ScopeSource). s.columns) c.self.view_is) ∙ ap listed c.in-View.is in
    let same : kinds ≡ kinds_of c.args.self.now.columns = sym (kinds_of_columns names kinds even) ∙ ap kinds_of (sym columns) in
    c.kind_in.ensures ∙ ap (λ (k : List ValueKind). slice_get k c.args.place) c.items.ensures ∙ ap (λ (k : List ValueKind). slice_get k c.args.place) same
