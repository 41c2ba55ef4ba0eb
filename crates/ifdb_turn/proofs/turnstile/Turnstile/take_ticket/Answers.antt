use Rattle.std.proofs.Common.{rules}
use Rattle.ifdb_turn.proofs.TakeTicket.{takes_ticket}
use Rattle.ifdb_turn.proofs.turnstile.Turnstile.take_ticket.Goals as goal

pub compare_exchange-found-requires : goal.compare_exchange-found-requires
compare_exchange-found-requires g c = (search rules, search rules, takes_ticket _ _ _ _ _ _ _ (search rules) (search rules) (search rules))
