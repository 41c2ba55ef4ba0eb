use Rattle.std.proofs.Common.{arith, ltb, length}
use Rattle.ifdb_label.proofs.LabelLaws.{reduce_is_rising, reduce_all}
use Rattle.ifdb_label.proofs.label.Label.reduce.Goals as goal

pub of-requires : goal.of-requires
of-requires c = grind (arith, reduce_is_rising c.args.tags.now c.args.list.now)

pub returns-clause-made : goal.returns-clause-made
returns-clause-made c = grind (arith, reduce_all c.args.tags.now (λ t. ltb t (length c.args.tags.now)) c.args.list.now)
