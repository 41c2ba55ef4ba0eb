use Rattle.std.proofs.Common.{◌≡◌, false, take, nat_eq}
use Rattle.std.specs.List.{list_any}
use Rattle.ifdb_txn.proofs.assigned.is_assigned.Given as goal

abbrev pub invariant-loop-column : goal.invariant-loop-column
invariant-loop-column l = list_any (λ c. list_any (λ a. nat_eq a.column c) l.assignments) (take l.column-index l.foreign.columns) ≡ false
