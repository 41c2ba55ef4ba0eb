use Rattle.std.proofs.Common.{◌≡◌, true, inr, arith}
use Rattle.std.proofs.lemmas.Bool.Decides.{nat_tests}
use Rattle.ifdb_row.specs.Content.{after}
use Rattle.ifdb_row.specs.Seen.{clash}
use Rattle.ifdb_row.specs.Writes.{is_fitting}
use Rattle.ifdb_row.proofs.SlotOrder.{slot_itself}
use Rattle.ifdb_catalog.specs.Statements.{values_at}
use Rattle.ifdb_txn.specs.Scenes.{scene_of}
use Rattle.ifdb_txn.proofs.Inserting.{key_refused}
use Rattle.ifdb_txn.proofs.insert.insert_one.Goals as goal

pub returns-then-not-is_free_beside-clause-fills : goal.returns-then-not-is_free_beside-clause-fills
returns-then-not-is_free_beside-clause-fills g c =
    let taken : clash c.args.target.now.from.tags.now (after (g.R.Rows.rows c.args.rows.now) c.args.earlier.now) c.args.target.now.table (values_at c.args.values.now c.args.target.now.schema.now.key) c.args.target.now.from.label.now ≡ true = grind (arith, nat_tests) in
    inr (key_refused (scene_of c.args.target.now (g.R.Rows.rows c.args.rows.now)) c.args.target.now.table c.args.target.now.schema.now c.args.earlier.now c.args.values.now taken)

pub put-requires : goal.put-requires
put-requires g c =
    let itself = slot_itself c.in_ok-slot.slot in
    let same : is_fitting c.in_ok-write.write.slot c.in_ok-write.write.row ≡ true = grind (arith, nat_tests) in
    grind arith
