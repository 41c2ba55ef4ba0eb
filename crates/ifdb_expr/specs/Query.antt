-- decides: queries and views
-- What a SELECT answers at a label.
use Rattle.std.specs.Prelude.{ℕ, Bool, true, List, [], map, slice_get, Option, Some, None, Result, Ok, Err, if◌then◌else◌}
use Rattle.std.specs.List.{list_all}
use Rattle.ifdb_value.specs.declared.value.Value.{Value}
use Rattle.ifdb_row.specs.declared.row.Row.{Row}
use Rattle.ifdb_bound.specs.declared.schema.ViewDef.{ViewDef}
use Rattle.ifdb_bound.specs.declared.select.BoundSelect.{BoundSelect}
use Rattle.ifdb_bound.specs.declared.select.BoundSource.{BoundSource}
use Rattle.ifdb_bound.specs.declared.select.Relation.{Relation}
use Rattle.ifdb_bound.specs.declared.select.Relation.TheVariants as relation
use Rattle.ifdb_bound.specs.Query.{SourceRow, all_some, select}
use Rattle.ifdb_expr.specs.View.{Setting, table_rows, view_rows}

-- why a SELECT that was bound has no answer
pub data QueryFault : Type 0 where
  view_authority : QueryFault
  out_of_range : QueryFault

-- the view, if it is there, has an owner who holds each tag that it declassifies
abbrev pub allows_view : Setting → Option ViewDef → Bool
allows_view set None = true
allows_view set (Some v) = set.allows v

-- the source is a table, or a view whose owner holds each tag that the view declassifies
abbrev pub is_allowed : Setting → Relation → Bool
is_allowed set (relation.Table t) = true
is_allowed set (relation.View v) = allows_view set (slice_get set.views v)

-- a view that isn't there has no rows
abbrev pub rows_of_view : Setting → List Row → List ℕ → Option ViewDef → Option (List SourceRow)
rows_of_view set rows label None = Some []
rows_of_view set rows label (Some v) = view_rows set rows label v

-- the rows of a source at a label; nothing where an item of a view is out of range
abbrev pub source_rows : Setting → List Row → List ℕ → Relation → Option (List SourceRow)
source_rows set rows label (relation.Table t) = Some (table_rows set.tags rows t label)
source_rows set rows label (relation.View v) = rows_of_view set rows label (slice_get set.views v)

-- the answer, if no number is out of range
abbrev pub answered : Option (List (List Value)) → Result (List (List Value)) QueryFault
answered None = Err out_of_range
answered (Some rows) = Ok rows

-- over the rows of the sources, if they are all there
abbrev pub over_sources : Setting → BoundSelect → Option (List (List SourceRow)) → Result (List (List Value)) QueryFault
over_sources set s None = Err out_of_range
over_sources set s (Some sources) = answered (select set.names s sources)

-- a SELECT at a label; the authority of every view is tested before any row is computed
abbrev pub query : Setting → List Row → List ℕ → BoundSelect → Result (List (List Value)) QueryFault
query set rows label s =
    if list_all (λ (x : BoundSource). is_allowed set x.relation) s.sources
    then over_sources set s (all_some (map (λ (x : BoundSource). source_rows set rows label x.relation) s.sources))
    else Err view_authority
