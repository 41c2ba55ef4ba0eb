use Rattle.std.proofs.Common.{◌≡◌, [], drop, IsTrue}
use Rattle.std.specs.Prelude.{Ok}
use Rattle.ifdb_model.specs.Writes.{insert_all}
use Rattle.ifdb_txn.specs.Scenes.{scene_of}
use Rattle.ifdb_txn.specs.Inserted.{are_new}
use Rattle.ifdb_txn.proofs.insert.insert_into.Given as goal

-- what is written so far, and that the others go on from it
abbrev pub invariant-loop-row : goal.invariant-loop-row
invariant-loop-row g l =
    (insert_all (scene_of l.target (g.R.Rows.rows l.rows)) l.target.table l.target.schema.now l.values (Ok [])
    ≡ insert_all (scene_of l.target (g.R.Rows.rows l.rows)) l.target.table l.target.schema.now (drop l.row-index l.values) (Ok l.writes))
    × IsTrue (are_new (g.R.Rows.rows l.rows) l.target.table l.target.from.label.now l.writes)
