use Rattle.std.proofs.Common.{◌≡◌, take, map, false}
use Rattle.std.specs.List.{list_any}
use Rattle.ifdb_catalog.specs.Definitions.{bound_foreign, refers_to_view}
use Rattle.ifdb_bind.proofs.tables.foreign_keys.Given as goal

-- the foreign keys so far are of tables, and have their trees
abbrev pub invariant-loop-key : goal.invariant-loop-key
invariant-loop-key l = record {
  tables : list_any (refers_to_view l.catalog) (take l.key-index l.foreign) ≡ false;
  keys : l.keys ≡ map (bound_foreign l.catalog l.columns) (take l.key-index l.foreign);
}
