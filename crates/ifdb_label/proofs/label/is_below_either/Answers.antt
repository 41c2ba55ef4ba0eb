use Rattle.std.proofs.Common.{arith}
use Rattle.std.proofs.lemmas.Bool.Decides.{nat_tests}
use Rattle.ifdb_label.proofs.LabelLaws.{below_either}
use Rattle.ifdb_label.proofs.label.is_below_either.Goals as goal

pub returns-then-is_below_some : goal.returns-then-is_below_some
returns-then-is_below_some c = let e = below_either c.args.tags.now c.args.tag c.args.first.now c.args.second.now in grind (arith, nat_tests)

pub returns-else-is_below_some : goal.returns-else-is_below_some
returns-else-is_below_some c = let e = below_either c.args.tags.now c.args.tag c.args.first.now c.args.second.now in grind (arith, nat_tests)
