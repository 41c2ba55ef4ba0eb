use Rattle.std.proofs.Common.{rules, inl}
use Rattle.ifdb_turn.proofs.HistoryLemmas.{both_prefix}
use Rattle.ifdb_turn.proofs.PlaceLemmas.{merged_apart}
use Rattle.ifdb_turn.proofs.JoinPasses.{joins}
use Rattle.ifdb_turn.proofs.LoadCount.{counts}
use Rattle.ifdb_turn.proofs.turnstile.Turnstile.join_pass.Goals as goal

pub join_seat-requires : goal.join_seat-requires
join_seat-requires g c = (search rules, search rules, search rules, search rules, joins _ _ _ _ _ _ _ (search rules) (inl (search rules)) (inl (search rules)))

pub load-requires : goal.load-requires
load-requires g c = (search rules, search rules, counts _ _ _ _ _ _ (search rules))

pub returns-clause-begins : goal.returns-clause-begins
returns-clause-begins g c = let p = both_prefix c.args.into.now.seat.me.0.history c.args.from.seat.me.0.history (search rules) in search rules

pub returns-clause-from_begins : goal.returns-clause-from_begins
returns-clause-from_begins g c = let p = both_prefix c.args.into.now.seat.me.0.history c.args.from.seat.me.0.history (search rules) in search rules

pub returns-clause-apart : goal.returns-clause-apart
returns-clause-apart g c = merged_apart c.args.into.now.seat.me.0.places c.args.from.seat.me.0.places (search rules)
