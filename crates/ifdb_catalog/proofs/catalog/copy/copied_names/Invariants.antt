use Rattle.std.proofs.Common.{◌≡◌, ◌++◌}
use Rattle.ifdb_catalog.proofs.catalog.copy.copied_names.Given as goal

-- the names so far, with those that are left, are all
abbrev pub invariant-loop-name : goal.invariant-loop-name
invariant-loop-name l = l.copies.keys ++ l.name-iterator ≡ l.names.keys
