use Rattle.std.proofs.Common.{◌≡◌, drop}
use Rattle.std.specs.Prelude.{map}
use Rattle.ifdb_model.specs.Writes.{update_all}
use Rattle.ifdb_txn.specs.Scenes.{scene_of}
use Rattle.ifdb_row.specs.ByReference.{row_of}
use Rattle.ifdb_txn.specs.Rebinding.{before}
use Rattle.ifdb_txn.proofs.update.update_into.Given as goal

abbrev pub invariant-loop-row : goal.invariant-loop-row
invariant-loop-row g l = update_all (scene_of l.target (g.R.Rows.rows l.rows)) l.target.schema.now l.assignments (map row_of l.matched) ≡ before l.writes.items (update_all (scene_of l.target (g.R.Rows.rows l.rows)) l.target.schema.now l.assignments (map row_of (drop l.row-index l.matched)))
