use Rattle.std.proofs.Common.{◌≡◌}
use Rattle.ifdb_turn.specs.Seats.{IsSameSeat}
use Rattle.ifdb_turn.proofs.turnstile.Turnstile.take_ticket.Given as goal

abbrev pub invariant-loop : goal.invariant-loop
invariant-loop g l = IsSameSeat l.initial.seat l.seat × (l.seat.me ≡ l.initial.seat.me)
