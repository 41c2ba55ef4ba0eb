use Rattle.std.proofs.Common.{◌≡◌, take}
use Rattle.ifdb_catalog.specs.Statements.{values_at}
use Rattle.ifdb_txn.proofs.parents.values_at.Given as goal

abbrev pub invariant-loop-place : goal.invariant-loop-place
invariant-loop-place l = l.found ≡ values_at l.values (take l.place-index l.places)
