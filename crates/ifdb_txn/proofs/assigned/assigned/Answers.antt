use Rattle.std.proofs.Common.{rules}
use Rattle.ifdb_txn.proofs.Assigning.{assigned_out}
use Rattle.ifdb_txn.proofs.assigned.assigned.Goals as goal

pub returns-in-Err : goal.returns-in-Err
returns-in-Err c = assigned_out c.args.old.now c.args.assignments.now c.loop-assignment.assignment-index c.assignment-item.result (search rules) (search rules) c.loop-assignment.values.items _ c.loop-assignment.invariant c.in-Err.ensures
