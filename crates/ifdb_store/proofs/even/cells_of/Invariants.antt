use Rattle.std.proofs.Common.{◌≡◌, map, take}
use Rattle.std.specs.List.{flat_map}
use Rattle.ifdb_row.specs.ByReference.{row_of}
use Rattle.ifdb_store.specs.Shapes.{cells_in}
use Rattle.ifdb_store.proofs.even.cells_of.Given as goal

-- the values of the rows so far
abbrev pub invariant-loop-row : goal.invariant-loop-row
invariant-loop-row l = l.cells.items ≡ flat_map cells_in (map row_of (take l.row-index l.rows))
