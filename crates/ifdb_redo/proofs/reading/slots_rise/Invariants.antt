use Rattle.std.proofs.Common.{◌≡◌, ◌-◌, drop}
use Rattle.ifdb_row.specs.Writes.{are_rising}
use Rattle.ifdb_redo.proofs.reading.slots_rise.Given as goal

abbrev pub invariant-loop-i : goal.invariant-loop-i
invariant-loop-i l = are_rising (drop (l.i - 1) l.writes) ≡ are_rising l.writes
