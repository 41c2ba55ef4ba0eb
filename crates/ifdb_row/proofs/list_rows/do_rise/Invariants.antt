use Rattle.std.proofs.Common.{◌≡◌, true, take}
use Rattle.ifdb_row.specs.Content.{rising}
use Rattle.ifdb_row.proofs.list_rows.do_rise.Given as goal

-- those up to the place rise
abbrev pub invariant-loop-place : goal.invariant-loop-place
invariant-loop-place l = rising (take l.place l.rows) ≡ true
