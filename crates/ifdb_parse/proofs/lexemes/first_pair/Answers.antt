use Rattle.std.proofs.Common.{◌∙◌, arith}
use Rattle.ifdb_parse.proofs.Undoubled.{no_pair}
use Rattle.ifdb_parse.proofs.lexemes.first_pair.Goals as goal

pub returns : goal.returns
returns c = c.loop-at.invariant.0 ∙ no_pair c.args.text.now c.loop-at.at (omega (arith, c.loop-at.invariant.1)) (omega arith)
