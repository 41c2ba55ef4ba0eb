use Rattle.std.proofs.Common.{◌≡◌, map, take}
use Rattle.ifdb_row.specs.ByReference.{row_of}
use Rattle.ifdb_store.specs.Shapes.{head_in}
use Rattle.ifdb_store.proofs.even.heads_of.Given as goal

-- the heads of the rows so far
abbrev pub invariant-loop-row : goal.invariant-loop-row
invariant-loop-row l = l.heads ≡ map head_in (map row_of (take l.row-index l.rows))
