use Rattle.std.proofs.Common.{◌≡◌, take, true, []}
use Rattle.std.specs.List.{list_all}
use Rattle.ifdb_bind.specs.Listed.{row_fills}
use Rattle.ifdb_bind.proofs.inserts.whole_rows.Given as goal

-- the rows so far fit
abbrev pub invariant-loop-row : goal.invariant-loop-row
invariant-loop-row l = list_all (row_fills l.columns l.key []) (take l.row-index l.row-items) ≡ true
