use Rattle.std.proofs.Common.{◌≡◌, take}
use Rattle.ifdb_catalog.specs.Scope.{kinds_in, table_kinds}
use Rattle.ifdb_select.proofs.sources.tables_of.Given as goal

-- the kinds of the tables so far
abbrev pub invariant-loop-source : goal.invariant-loop-source
invariant-loop-source l = kinds_in l.tables ≡ table_kinds l.catalog (take l.source-index l.source-items)
