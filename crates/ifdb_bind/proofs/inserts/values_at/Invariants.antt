use Rattle.std.proofs.Common.{◌≡◌, take}
use Rattle.ifdb_catalog.specs.Statements.{values_at}
use Rattle.ifdb_bind.proofs.inserts.values_at.Given as goal

-- the values at the places so far
abbrev pub invariant-loop-place : goal.invariant-loop-place
invariant-loop-place l = l.values ≡ values_at l.row (take l.place-index l.places)
