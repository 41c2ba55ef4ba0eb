use Rattle.std.proofs.Common.{arith, ltb, length}
use Rattle.ifdb_label.proofs.LabelLaws.{strip_is_rising, strip_all}
use Rattle.ifdb_label.proofs.label.Label.strip.Goals as goal

pub of-requires : goal.of-requires
of-requires c = grind (arith, strip_is_rising c.args.tags.now c.in_ok-left.left.items c.tags-2.result.now)

pub returns-clause-made : goal.returns-clause-made
returns-clause-made c = grind (arith, strip_all c.args.tags.now (λ t. ltb t (length c.args.tags.now)) c.in_ok-left.left.items c.tags-2.result.now)
