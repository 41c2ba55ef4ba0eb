use Rattle.ifdb_parse.proofs.Readable.{word_at}
use Rattle.ifdb_parse.proofs.lexemes.word.Goals as goal

pub range-requires-clause-end_boundary : goal.range-requires-clause-end_boundary
range-requires-clause-end_boundary c = (word_at c.args.line.now c.args.token c.utf8.line c.requires.token c.requires.kind).end

pub word_or_name-requires : goal.word_or_name-requires
word_or_name-requires c = rw c.range.ensures.value (word_at c.args.line.now c.args.token c.utf8.line c.requires.token c.requires.kind).name
