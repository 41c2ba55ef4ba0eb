use Rattle.std.proofs.Common.{rules}
use mathlib.Core.Option.{some}
use Rattle.ifdb_durable.proofs.Steps.{reads, meets, takes, parts}
use Rattle.ifdb_durable.proofs.writer.Writer.take.Goals as goal

pub split_seat-spare-requires : goal.split_seat-spare-requires
split_seat-spare-requires g c = (search rules, search rules, reads _ _)

pub join_seat-requires : goal.join_seat-requires
join_seat-requires g c = (search rules, search rules, search rules, search rules, meets _ _ _ _ (search rules) (search rules))

pub compare_exchange_with-self-requires : goal.compare_exchange_with-self-requires
compare_exchange_with-self-requires g c = (search rules, search rules, takes _ _ 0 _ (some record { disk = c.args.self.now.hand.disk; batch = c.swap.new.x }) (search rules) (search rules))

pub split_seat-requires : goal.split_seat-requires
split_seat-requires g c = (search rules, search rules, parts _ _ (search rules) (search rules))
