use Rattle.std.proofs.Common.{rules}
use Rattle.ifdb_txn.specs.Scenes.{scene_of}
use Rattle.ifdb_txn.proofs.Inserting.{all_refused}
use Rattle.ifdb_txn.proofs.insert.insert_into.Goals as goal

pub returns-in-Err-clause-fills : goal.returns-in-Err-clause-fills
returns-in-Err-clause-fills g c = all_refused (scene_of c.args.target.now (g.R.Rows.rows c.args.rows.now)) c.args.target.now.table c.args.target.now.schema.now c.args.values.now c.loop-row.row-index c.row-item.result c.loop-row.writes c.loop-row.writes _ (search rules) (search rules) c.loop-row.invariant.0 c.in-Err.ensures.fills
