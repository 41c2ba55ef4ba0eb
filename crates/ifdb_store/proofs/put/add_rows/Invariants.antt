use Rattle.std.proofs.Common.{◌≡◌, ◌++◌, map, take}
use Rattle.ifdb_row.specs.ByReference.{row_of}
use Rattle.ifdb_row.specs.Runs.{rows_in}
use Rattle.ifdb_store.proofs.put.add_rows.Given as goal

-- the rows so far
abbrev pub invariant-loop-place : goal.invariant-loop-place
invariant-loop-place l = map row_of l.out.items ≡ map row_of l.fn.out.items ++ take l.place (rows_in l.rows)
