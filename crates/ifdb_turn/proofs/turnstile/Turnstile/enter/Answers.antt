use Rattle.std.proofs.Common.{rules, inl, inr, refl}
use Rattle.ifdb_turn.proofs.SplitPass.{splits}
use Rattle.ifdb_turn.proofs.JoinPasses.{joins}
use Rattle.ifdb_turn.proofs.LoadCount.{counts}
use Rattle.ifdb_turn.proofs.turnstile.Turnstile.enter.Goals as goal

pub split_seat-copy-requires : goal.split_seat-copy-requires
split_seat-copy-requires g c = (search rules, search rules, splits _ _ _ _ 0 _ (inr refl))

pub join_seat-requires : goal.join_seat-requires
join_seat-requires g c = (search rules, search rules, search rules, search rules, joins _ _ _ _ _ _ _ (search rules) (inl (search rules)) (inr (search rules)))

pub load-requires : goal.load-requires
load-requires g c = (search rules, search rules, counts _ _ _ _ _ _ (search rules))
