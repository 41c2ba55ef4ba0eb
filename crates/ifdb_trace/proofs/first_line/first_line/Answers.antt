use Rattle.ifdb_trace.proofs.Lines.{lines_at, lines_whole}
use Rattle.ifdb_trace.proofs.first_line.first_line.Goals as goal

pub returns-in-Some-clause-lines : goal.returns-in-Some-clause-lines
returns-in-Some-clause-lines c = lines_at c.args.text.now c.in-Some.at c.in-Some.ensures

pub returns-in-None-clause-lines : goal.returns-in-None-clause-lines
returns-in-None-clause-lines c = lines_whole c.args.text.now c.in-None.ensures c.requires.some
