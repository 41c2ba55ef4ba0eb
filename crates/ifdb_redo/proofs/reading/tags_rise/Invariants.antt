use Rattle.std.proofs.Common.{◌≡◌, ◌-◌, drop}
use Rattle.ifdb_label.specs.Label.{is_rising}
use Rattle.ifdb_redo.proofs.reading.tags_rise.Given as goal

abbrev pub invariant-loop-i : goal.invariant-loop-i
invariant-loop-i l = is_rising (drop (l.i - 1) l.tags) ≡ is_rising l.tags
