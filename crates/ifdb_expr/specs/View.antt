-- decides: queries and views
-- The rows of tables and views that a label sees.
use Rattle.std.specs.Prelude.{ℕ, Bool, List, [], ◌∷◌, ◌==◌, filter, map, flat_map, Option, option_map}
use Rattle.ifdb_value.specs.declared.value.Value.{Value}
use Rattle.ifdb_label.specs.Tags.{MadeTag}
use Rattle.ifdb_label.specs.Label.{reduce, union, strip}
use Rattle.ifdb_row.specs.declared.row.Row.{Row}
use Rattle.ifdb_row.specs.Seen.{see}
use Rattle.ifdb_bound.specs.declared.schema.ViewDef.{ViewDef}
use Rattle.ifdb_bound.specs.declared.select.BoundSource.{BoundSource}
use Rattle.ifdb_bound.specs.declared.select.Relation.{Relation}
use Rattle.ifdb_bound.specs.declared.select.Relation.TheVariants as relation
use Rattle.ifdb_bound.specs.Query.{SourceRow, Combination, all_some, answer_row, matching}

-- What a SELECT reads beside the rows: the tags, their names, the views, and whether a view's owner holds each tag that
-- the view declassifies.
pub record Setting : Type 0 where
  pub tags : List MadeTag
  pub names : List (List ℕ)
  pub views : List ViewDef
  pub allows : ViewDef → Bool

-- a row as a source shows it
abbrev pub source_row : Row → SourceRow
source_row r = record { values = r.values; label = r.slot.label }

-- the rows of a table
abbrev pub of_table : ℕ → List Row → List Row
of_table table rows = filter (λ (r : Row). r.slot.table == table) rows

-- a table's rows that a label sees, by key, then label
abbrev pub table_rows : List MadeTag → List Row → ℕ → List ℕ → List SourceRow
table_rows tags rows table label = map source_row (of_table table (see tags rows label))

-- the rows of a source of a view, which is a table
abbrev pub base_rows : List MadeTag → List Row → List ℕ → Relation → List SourceRow
base_rows tags rows label (relation.Table t) = table_rows tags rows t label
base_rows tags rows label (relation.View v) = []

-- a view's sources, computed over the rows that the label sees with the tags that the view declassifies
abbrev pub base_sources : List MadeTag → List Row → ViewDef → List ℕ → List (List SourceRow)
base_sources tags rows v label = map (λ (s : BoundSource). base_rows tags rows (union tags label v.declassifying) s.relation) v.select.sources

-- the union of the labels of the rows that a view's row is made of, without the tags below a declassified one
abbrev pub view_label : List MadeTag → ViewDef → Combination → List ℕ
view_label tags v c = strip tags (reduce tags (flat_map (λ (r : SourceRow). r.label) c)) v.declassifying

-- values at a label
abbrev pub labelled : List ℕ → List Value → SourceRow
labelled label values = record { values = values; label = label }

-- a view's row, or nothing where an item is out of range
abbrev pub view_row : Setting → ViewDef → Combination → Option SourceRow
view_row set v c = option_map (labelled (view_label set.tags v c)) (answer_row set.names v.select.items (c ∷ []))

-- the rows that a view has at a label, in the order of its sources; nothing where an item is out of range
abbrev pub view_rows : Setting → List Row → List ℕ → ViewDef → Option (List SourceRow)
view_rows set rows label v = all_some (map (view_row set v) (matching v.select (base_sources set.tags rows v label)))
