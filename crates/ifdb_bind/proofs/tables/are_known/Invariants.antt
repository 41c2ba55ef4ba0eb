use Rattle.std.proofs.Common.{◌≡◌, take, true}
use Rattle.std.specs.List.{list_all}
use Rattle.ifdb_catalog.specs.Definitions.{is_known_foreign}
use Rattle.ifdb_bind.proofs.tables.are_known.Given as goal

-- the foreign keys so far are known
abbrev pub invariant-loop-key : goal.invariant-loop-key
invariant-loop-key l = list_all (is_known_foreign l.catalog l.columns) (take l.key-index l.foreign) ≡ true
