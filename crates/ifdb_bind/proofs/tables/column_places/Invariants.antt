use Rattle.std.proofs.Common.{◌≡◌, take, map, true}
use Rattle.std.specs.List.{list_all}
use Rattle.ifdb_catalog.specs.Statements.{is_column_of, place_at}
use Rattle.ifdb_bind.proofs.tables.column_places.Given as goal

-- the names so far are known, and have their places
abbrev pub invariant-loop-name : goal.invariant-loop-name
invariant-loop-name l = record {
  known : list_all (is_column_of l.columns) (take l.name-index l.names) ≡ true;
  places : l.places ≡ map (place_at l.columns) (take l.name-index l.names);
}
