use Rattle.std.proofs.Common.{rules, inr, refl}
use Rattle.ifdb_turn.proofs.HistoryLemmas.{longer-snoc}
use Rattle.ifdb_turn.proofs.SplitPass.{splits}
use Rattle.ifdb_turn.proofs.JoinPasses.{joins}
use Rattle.ifdb_turn.proofs.turn.Turn.done.Goals as goal

pub split_seat-copy-requires : goal.split_seat-copy-requires
split_seat-copy-requires g c = (search rules, search rules, splits _ _ _ _ 0 _ (inr refl))

pub join_seat-requires : goal.join_seat-requires
join_seat-requires g c = (search rules, search rules, search rules, search rules, joins _ _ _ _ _ _ _ (search rules) (inr (search rules)) (inr (search rules)))

pub hand_on-requires-clause-kept : goal.hand_on-requires-clause-kept
hand_on-requires-clause-kept g c = let e = c.requires.entry in let long = longer-snoc c.args.self.pass.now.seat.me.0.history e.0 in search rules
