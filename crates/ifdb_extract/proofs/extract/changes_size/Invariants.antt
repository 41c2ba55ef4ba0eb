use Rattle.std.proofs.Common.{◌≡◌, ◌-◌, ◌^◌, min, take}
use Rattle.ifdb_extract.specs.Extracts.{log_size}
use Rattle.ifdb_extract.proofs.extract.changes_size.Given as goal

abbrev pub invariant-loop-change : goal.invariant-loop-change
invariant-loop-change l = l.size ≡ min (log_size (take l.change-index l.changes)) (2 ^ 64 - 1)
