-- What INSERT, UPDATE and DELETE leave.
use Rattle.std.specs.Prelude.{Bool, ◌&&◌, List, length, option_to_list}
use Rattle.std.specs.List.{list_all}
use Rattle.ifdb_row.specs.declared.row.Row.{Row}
use Rattle.ifdb_row.specs.declared.write.Write.{Write}
use Rattle.ifdb_row.specs.Content.{after}
use Rattle.ifdb_row.specs.Verdict.{leaves}
use Rattle.ifdb_label.specs.Tags.{are_made}
use Rattle.ifdb_catalog.specs.Public.{Public}
use Rattle.ifdb_laws.specs.RowLaws.{row_fits}

-- the write's label is of made tags, and the row that it gives fits its table
abbrev pub is_fit : Public → Write → Bool
is_fit p w = are_made (length p.tags) w.slot.label && list_all (row_fits p) (option_to_list w.row)

-- so it is with each write
abbrev pub are_fit : Public → List Write → Bool
are_fit p ws = list_all (is_fit p) ws

-- the writes are those of a DELETE, and leave a row without a parent
abbrev pub orphans : Bool → List Row → List Write → Bool
orphans deleting rows ws = deleting && leaves (after rows ws) ws
