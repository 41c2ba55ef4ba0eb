use Rattle.ifdb_script.proofs.Counting.{counting_on}
use Rattle.ifdb_script.proofs.rehearsal.rehearse_lines.Goals as goal

pub lines-preserved : goal.lines-preserved
lines-preserved c =
    let line = c.first_line.result.0.now in
    let behind = c.first_line.result.1.now in
    counting_on c.args.script.now c.lines.room c.take_line.new.room c.lines.counts c.count.new.self c.lines.rest.now line behind
    c.in_ok-take_line.field-0 c.lines.invariant c.first_line.ensures.lines c.first_line.ensures.shorter c.in_ok-take_line.ensures c.count.ensures.counted c.count.ensures.few
