use Rattle.std.proofs.Common.{◌≡◌, take, false}
use Rattle.std.specs.List.{list_any}
use Rattle.ifdb_bind.specs.Written.{is_of_key}
use Rattle.ifdb_bind.proofs.writes.writes_key.Given as goal

-- none of the assignments so far is of the key
abbrev pub invariant-loop-assignment : goal.invariant-loop-assignment
invariant-loop-assignment l = list_any (is_of_key l.key) (take l.assignment-index l.assignments) ≡ false
