use Rattle.std.proofs.Common.{◌≡◌, ◌∙◌, sym, take, take_all}
use Rattle.ifdb_wire.proofs.RowTexts.{rows_text}
use Rattle.ifdb_wire.proofs.rows.try_rows.Goals as goal

pub returns-clause-text : goal.returns-clause-text
returns-clause-text c =
    let table = c.args.table.now in
    let end = rw c.items-row-items.ensures at c.loop-row-test.false in
    let whole : take c.loop-row.row-index table.rows ≡ table.rows = take_all c.loop-row.row-index table.rows end in
    (rw whole at c.loop-row.invariant.text) ∙ sym (rows_text c.args.out.now.session table)
