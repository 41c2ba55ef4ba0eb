use Rattle.std.proofs.Common.{◌≡◌, take, true}
use Rattle.ifdb_bind.specs.Listed.{each_once}
use Rattle.ifdb_bind.proofs.inserts.each_once.Given as goal

-- the columns so far are listed once
abbrev pub invariant-loop-column : goal.invariant-loop-column
invariant-loop-column l = each_once (take l.column-index l.columns) l.names ≡ true
