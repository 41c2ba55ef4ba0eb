use Rattle.std.proofs.Common.{◌≡◌, drop}
use Rattle.ifdb_model.specs.Writes.{binding_keys, bound_parents}
use Rattle.ifdb_txn.specs.Scenes.{scene_of}
use Rattle.ifdb_txn.specs.Rebinding.{with_front}
use Rattle.ifdb_txn.proofs.parents.bind_parents.Given as goal

-- the parents are those so far with the others'
abbrev pub invariant-loop-foreign : goal.invariant-loop-foreign
invariant-loop-foreign g l =
    bound_parents (scene_of l.target (g.R.Rows.rows l.rows)) l.values (binding_keys l.values l.target.schema.now.foreign)
    ≡ with_front l.refs (bound_parents (scene_of l.target (g.R.Rows.rows l.rows)) l.values (binding_keys l.values (drop l.foreign-index l.target.schema.now.foreign)))
