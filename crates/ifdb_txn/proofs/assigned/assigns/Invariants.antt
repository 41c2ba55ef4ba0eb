use Rattle.std.proofs.Common.{◌≡◌, false, take, nat_eq}
use Rattle.std.specs.List.{list_any}
use Rattle.ifdb_txn.proofs.assigned.assigns.Given as goal

abbrev pub invariant-loop-assignment : goal.invariant-loop-assignment
invariant-loop-assignment l = list_any (λ a. nat_eq a.column l.column) (take l.assignment-index l.assignments) ≡ false
