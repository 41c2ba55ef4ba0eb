use Rattle.std.proofs.Common.{rules}
use Rattle.ifdb_turn.proofs.MakeSeat.{sits}
use Rattle.ifdb_turn.proofs.TakeFirstTicket.{opens}
use Rattle.ifdb_turn.proofs.LookAtServing.{looks}
use Rattle.ifdb_turn.proofs.turnstile.Turnstile.new.Goals as goal

pub load_new_seat-witness-requires : goal.load_new_seat-witness-requires
load_new_seat-witness-requires g c = (search rules, sits _ _ _ _)

pub compare_exchange_with-requires : goal.compare_exchange_with-requires
compare_exchange_with-requires g c = (search rules, search rules, opens _ _ _ _ _ _ record { object = c.args.object; witness = c.into_badge.result } (search rules))

pub load-requires : goal.load-requires
load-requires g c = (search rules, search rules, looks _ _ _ _ _ _ 0 (search rules) (search rules))
