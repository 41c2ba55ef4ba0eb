use Rattle.ifdb_parse.proofs.Readable.{text_at}
use Rattle.ifdb_parse.proofs.lexemes.quoted.Goals as goal

pub range-requires-clause-start_le_end : goal.range-requires-clause-start_le_end
range-requires-clause-start_le_end c = (text_at c.args.line.now c.args.token c.utf8.line c.requires.token c.requires.kind).order

pub range-requires-clause-start_boundary : goal.range-requires-clause-start_boundary
range-requires-clause-start_boundary c = λ _. (text_at c.args.line.now c.args.token c.utf8.line c.requires.token c.requires.kind).open_

pub range-requires-clause-end_boundary : goal.range-requires-clause-end_boundary
range-requires-clause-end_boundary c = (text_at c.args.line.now c.args.token c.utf8.line c.requires.token c.requires.kind).close_
