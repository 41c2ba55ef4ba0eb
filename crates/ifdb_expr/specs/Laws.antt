-- What the laws say.
use Rattle.std.specs.Prelude.{◌≡◌, ℕ, true, false, List, Some, Err}
use Rattle.std.specs.List.{list_all}
use Rattle.ifdb_label.specs.Label.{flows}
use Rattle.ifdb_row.specs.declared.row.Row.{Row}
use Rattle.ifdb_bound.specs.declared.schema.ViewDef.{ViewDef}
use Rattle.ifdb_bound.specs.declared.select.BoundSelect.{BoundSelect}
use Rattle.ifdb_bound.specs.declared.select.BoundSource.{BoundSource}
use Rattle.ifdb_bound.specs.Query.{SourceRow}
use Rattle.ifdb_expr.specs.View.{Setting, view_rows}
use Rattle.ifdb_expr.specs.Query.{view_authority, is_allowed, query}

-- each row of a view has a label that flows to the asking label
abbrev pub ViewRowsAreSeen : Type 0
ViewRowsAreSeen = (set : Setting) (rows : List Row) (label : List ℕ) (v : ViewDef) (shown : List SourceRow)
    → view_rows set rows label v ≡ Some shown → list_all (λ (r : SourceRow). flows set.tags r.label label) shown ≡ true

-- whatever the rows
abbrev pub AuthorityComesFirst : Type 0
AuthorityComesFirst = (set : Setting) (rows : List Row) (label : List ℕ) (s : BoundSelect)
    → list_all (λ (x : BoundSource). is_allowed set x.relation) s.sources ≡ false → query set rows label s ≡ Err view_authority
