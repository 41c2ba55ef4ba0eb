use Rattle.std.proofs.Common.{◌≡◌, drop}
use Rattle.std.specs.Prelude.{find}
use Rattle.ifdb_row.specs.ByReference.{row_of}
use Rattle.ifdb_row.specs.Verdict.{empties_parent}
use Rattle.ifdb_foreign.proofs.broken.parent_emptied.Given as goal

abbrev pub invariant-loop-write : goal.invariant-loop-write
invariant-loop-write l = find (empties_parent (row_of l.row)) (drop l.write-index l.writes) ≡ find (empties_parent (row_of l.row)) l.writes
