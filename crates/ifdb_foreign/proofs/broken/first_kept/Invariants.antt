use Rattle.std.proofs.Common.{◌≡◌, take}
use Rattle.std.specs.Prelude.{find}
use Rattle.ifdb_row.specs.ByReference.{option_row}
use Rattle.ifdb_row.specs.Verdict.{is_left}
use Rattle.ifdb_foreign.specs.Left.{unwritten}
use Rattle.ifdb_foreign.proofs.broken.first_kept.Given as goal

-- the first row that the writes so far leave
abbrev pub invariant-loop-write : goal.invariant-loop-write
invariant-loop-write g l = option_row l.child ≡ find (unwritten l.writes (is_left (take l.write-index l.writes))) (g.R.Rows.rows l.before)
