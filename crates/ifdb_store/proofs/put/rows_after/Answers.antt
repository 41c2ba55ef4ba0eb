use Rattle.std.proofs.Common.{◌∙◌, ap, map, sym}
use Rattle.ifdb_row.specs.ByReference.{row_of}
use Rattle.ifdb_row.specs.Content.{place, rising}
use Rattle.ifdb_row.specs.Runs.{rows_in}
use Rattle.ifdb_store.proofs.Parts.{after_next, fitting_next}
use Rattle.ifdb_store.proofs.put.rows_after.Goals as goal

pub loop-write-preserved : goal.loop-write-preserved
loop-write-preserved c =
    let w = c.write-item.result in
    let i = c.loop-write.invariant in
    record {
      rows = c.in_ok-put.ensures ∙ (ap (place w.slot w.row) i.rows ∙ sym (after_next (rows_in c.args.rows) c.args.writes.now c.loop-write.write-index w c.loop-write-test.true c.write-item.is));
      rising = ap rising c.in_ok-put.ensures ∙ fitting_next (map row_of c.loop-write.all.items) c.args.writes.now c.loop-write.write-index w c.loop-write-test.true c.write-item.is c.requires.fitting i.rising;
    }
