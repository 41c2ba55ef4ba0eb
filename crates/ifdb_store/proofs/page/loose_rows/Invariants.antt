use Rattle.std.proofs.Common.{◌≡◌, map, take}
use Rattle.ifdb_row.specs.ByReference.{row_of}
use Rattle.ifdb_store.proofs.page.loose_rows.Given as goal

-- the copies of the rows so far
abbrev pub invariant-loop-row : goal.invariant-loop-row
invariant-loop-row l = l.copies ≡ map row_of (take l.row-index l.rows)
