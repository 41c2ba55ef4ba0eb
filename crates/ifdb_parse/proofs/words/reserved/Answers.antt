use Rattle.std.proofs.Common.{arith}
use Rattle.std.proofs.lemmas.Grind.{common_steps}
use Rattle.ifdb_parse.proofs.ReservedWords.{of_other}
use Rattle.ifdb_parse.proofs.words.reserved.Goals as goal

pub returns-in_default : goal.returns-in_default
returns-in_default c = grind (arith, common_steps, of_other c.args.text.now)
