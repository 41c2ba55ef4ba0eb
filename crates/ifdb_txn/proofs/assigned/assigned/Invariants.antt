use Rattle.std.proofs.Common.{◌≡◌, drop, Some}
use Rattle.std.specs.List.{fold}
use Rattle.ifdb_model.specs.Writes.{and_assigned, assigned}
use Rattle.ifdb_txn.proofs.assigned.assigned.Given as goal

-- the others go on from the values so far
abbrev pub invariant-loop-assignment : goal.invariant-loop-assignment
invariant-loop-assignment l = assigned l.old l.assignments ≡ fold (and_assigned l.old) (Some l.values.items) (drop l.assignment-index l.assignments)
