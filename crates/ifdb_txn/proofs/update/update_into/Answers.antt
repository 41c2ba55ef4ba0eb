use Rattle.std.proofs.Common.{rules}
use Rattle.ifdb_txn.specs.Scenes.{scene_of}
use Rattle.ifdb_txn.proofs.Updating.{one_refused}
use Rattle.ifdb_txn.proofs.update.update_into.Goals as goal

pub returns-in-Err : goal.returns-in-Err
returns-in-Err g c = one_refused (scene_of c.args.target.now (g.R.Rows.rows c.args.rows.now)) c.args.target.now.schema.now c.args.assignments.now c.args.matched.now c.loop-row.row-index c.row-item.result c.loop-row.writes.items _ (search rules) (search rules) c.loop-row.invariant c.in-Err.ensures
