use Rattle.std.proofs.Common.{◌≡◌, take}
use Rattle.ifdb_row.specs.Runs.{rows_in}
use Rattle.ifdb_restore.specs.Shorter.{writing}
use Rattle.ifdb_extract.proofs.row_texts.writes_of.Given as goal

-- the writes so far
abbrev pub invariant-loop-place : goal.invariant-loop-place
invariant-loop-place l = l.writes.items ≡ take l.place (writing (rows_in l.run))
