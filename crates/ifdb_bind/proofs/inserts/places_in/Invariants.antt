use Rattle.std.proofs.Common.{◌≡◌, take}
use Rattle.ifdb_bind.specs.Listed.{places_in}
use Rattle.ifdb_bind.proofs.inserts.places_in.Given as goal

-- the places of the columns so far
abbrev pub invariant-loop-column : goal.invariant-loop-column
invariant-loop-column l = l.places ≡ places_in l.names (take l.column-index l.columns)
