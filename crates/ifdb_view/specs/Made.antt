-- Labels of made tags, and views that can be computed.
use Rattle.std.specs.Prelude.{ℕ, Bool, true, ◌&&◌, List, length, nat_le, Option, Some, None}
use Rattle.std.specs.List.{list_all}
use Rattle.ifdb_label.specs.Tags.{MadeTag, are_made}
use Rattle.ifdb_bound.specs.declared.schema.ViewDef.{ViewDef}
use Rattle.ifdb_bound.specs.Query.{SourceRow}
use Rattle.ifdb_expr.specs.View.{Setting}
use Rattle.ifdb_exec.specs.declared.reading.Reading.{Reading}

-- a row's label is of made tags, where n are
abbrev pub is_made : ℕ → SourceRow → Bool
is_made n r = are_made n r.label

-- and so of each row of some combinations, or of some sources
abbrev pub are_all_made : ℕ → List (List SourceRow) → Bool
are_all_made n all = list_all (list_all (is_made n)) all

-- a view declassifies made tags, and is over four sources at most
abbrev pub is_view_made : ℕ → ViewDef → Bool
is_view_made n v = are_made n v.declassifying && nat_le (length v.select.sources) 4

abbrev pub are_views_made : ℕ → List ViewDef → Bool
are_views_made n views = list_all (is_view_made n) views

-- the view's owner holds each tag that the view declassifies, if there is a view
abbrev pub owner_holds : (ViewDef → Bool) → Option ViewDef → Bool
owner_holds allows None = true
owner_holds allows (Some v) = allows v

-- what a SELECT reads beside the rows
abbrev pub setting : List MadeTag → List (List ℕ) → List ViewDef → (ViewDef → Bool) → Setting
setting tags names views allows = record { tags = tags; names = names; views = views; allows = allows }

-- the same of a reader
abbrev pub setting_of : Reading → List ViewDef → (ViewDef → Bool) → Setting
setting_of x views allows = setting x.tags.now x.names.now views allows
