use Rattle.ifdb_row.specs.ByReference.{slot_of}
use Rattle.ifdb_row.specs.Runs.{rows_in}
use Rattle.ifdb_row.proofs.Rising.{parted_at}
use Rattle.ifdb_store.proofs.splice.gap_for.Goals as goal

pub count_passing-from-requires : goal.count_passing-from-requires
count_passing-from-requires c = parted_at (slot_of c.args.slot) (rows_in c.args.rows) c.requires
