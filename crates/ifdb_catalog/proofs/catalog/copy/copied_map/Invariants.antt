use Rattle.std.proofs.Common.{◌≡◌, ◌++◌}
use Rattle.ifdb_catalog.proofs.catalog.copy.copied_map.Given as goal

-- the entries so far, with those that are left, are all
abbrev pub invariant-loop-name : goal.invariant-loop-name
invariant-loop-name g l = l.copies.entries ++ l.name-iterator ≡ l.map.entries
