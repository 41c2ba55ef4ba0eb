use Rattle.std.proofs.Common.{◌≡◌, drop}
use Rattle.ifdb_row.specs.ByReference.{row_of}
use Rattle.ifdb_model.specs.Writes.{rebound}
use Rattle.ifdb_txn.specs.Scenes.{scene_of}
use Rattle.ifdb_txn.specs.Rebinding.{with_front}
use Rattle.ifdb_txn.proofs.parents.rebind_parents.Given as goal

-- the parents are those so far with the others', whose references are left
abbrev pub invariant-loop-foreign : goal.invariant-loop-foreign
invariant-loop-foreign g l =
    rebound (scene_of l.target (g.R.Rows.rows l.rows)) l.assignments (row_of l.row).values l.values l.target.schema.now.foreign (row_of l.row).refs
    ≡ with_front l.found (rebound (scene_of l.target (g.R.Rows.rows l.rows)) l.assignments (row_of l.row).values l.values (drop l.foreign-index l.target.schema.now.foreign) l.refs)
