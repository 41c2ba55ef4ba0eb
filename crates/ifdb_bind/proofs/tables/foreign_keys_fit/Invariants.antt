use Rattle.std.proofs.Common.{◌≡◌, take, true}
use Rattle.std.specs.List.{list_all}
use Rattle.ifdb_catalog.specs.Definitions.{foreign_fits}
use Rattle.ifdb_bind.proofs.tables.foreign_keys_fit.Given as goal

-- the foreign keys so far fit
abbrev pub invariant-loop-key : goal.invariant-loop-key
invariant-loop-key l = list_all (foreign_fits l.catalog l.columns) (take l.key-index l.foreign) ≡ true
