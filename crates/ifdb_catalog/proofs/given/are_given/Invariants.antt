use Rattle.std.proofs.Common.{◌≡◌, drop}
use Rattle.ifdb_catalog.specs.Statements.{are_given, values_at}
use Rattle.ifdb_catalog.proofs.given.are_given.Given as goal

-- it is so of all places as it is of those that are left
abbrev pub invariant-loop-place : goal.invariant-loop-place
invariant-loop-place l = are_given (values_at l.values (drop l.place-index l.places)) ≡ are_given (values_at l.values l.places)
