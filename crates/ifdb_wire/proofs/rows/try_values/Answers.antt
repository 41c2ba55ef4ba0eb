use Rattle.std.proofs.Common.{append_assoc}
use Rattle.ifdb_wire.proofs.RowTexts.{row_text_cons}
use Rattle.ifdb_wire.proofs.rows.try_values.Goals as goal

pub returns-in_ok-try_value-in-Some-clause-text : goal.returns-in_ok-try_value-in-Some-clause-text
returns-in_ok-try_value-in-Some-clause-text c =
    let written = rw (c.in_ok-try_value-in-Some.ensures.text, append_assoc) at c.try_more.ensures.text in
    rw (c.in-Some.ensures.cases.0, row_text_cons c.in-Some.first.now c.in-Some.more.now) written
