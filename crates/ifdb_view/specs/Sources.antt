-- What a SELECT reads, said of all its sources.
use Rattle.std.specs.Prelude.{ℕ, Bool, List, map, Option}
use Rattle.std.specs.List.{list_all}
use Rattle.ifdb_row.specs.declared.row.Row.{Row}
use Rattle.ifdb_bound.specs.declared.select.BoundSource.{BoundSource}
use Rattle.ifdb_bound.specs.Query.{SourceRow, all_some}
use Rattle.ifdb_expr.specs.Query.{is_allowed, source_rows}
use Rattle.ifdb_expr.specs.View.{Setting, base_rows}
use Rattle.ifdb_label.specs.Tags.{MadeTag}

-- each is a table, or a view whose owner holds what it declassifies
abbrev pub are_allowed : Setting → List BoundSource → Bool
are_allowed set sources = list_all (λ (x : BoundSource). is_allowed set x.relation) sources

-- the rows of each at a label; nothing where an item of a view is out of range
abbrev pub all_source_rows : Setting → List Row → List ℕ → List BoundSource → Option (List (List SourceRow))
all_source_rows set rows label sources = all_some (map (λ (x : BoundSource). source_rows set rows label x.relation) sources)

-- the rows of each as a view reads them, which reads tables alone
abbrev pub all_base_rows : List MadeTag → List Row → List ℕ → List BoundSource → List (List SourceRow)
all_base_rows tags rows label sources = map (λ (x : BoundSource). base_rows tags rows label x.relation) sources
