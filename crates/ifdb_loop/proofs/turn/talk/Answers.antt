use Rattle.std.proofs.Common.{◌≡◌, rules}
use Rattle.std.proofs.lemmas.Result.{err_from_is_err_and}
use Rattle.ifdb_loop.proofs.Endings.{unheard}
use Rattle.ifdb_loop.proofs.turn.talk.Goals as goal

pub returns-in_err-take_in-clause-stands : goal.returns-in_err-take_in-clause-stands
returns-in_err-take_in-clause-stands g c =
    let exit = err_from_is_err_and c.from_residual.result c.from_residual.ensures.1 in
    let s = c.requires.served.0 in
    rw (exit.1, exit.2) (c.take_in.new.chunk, (s.0, rw c.take_in.ensures.seat s.1, c.in_err-take_in.ensures.exchanges _ _ _ s.2))

pub returns-in_err-take_in-clause-goes_on : goal.returns-in_err-take_in-clause-goes_on
returns-in_err-take_in-clause-goes_on g c = g.met.S.Service.goes_itself _

pub ask_lines-requires-clause-stands : goal.ask_lines-requires-clause-stands
ask_lines-requires-clause-stands g c κs within =
    let s = c.requires.served.0 in
    (s.0, rw c.take_in.ensures.seat s.1, c.in_ok-take_in.ensures.exchanges _ _ _ s.2)

pub returns-in_err-ask_lines-clause-stands : goal.returns-in_err-ask_lines-clause-stands
returns-in_err-ask_lines-clause-stands g c =
    let exit = err_from_is_err_and c.from_residual-in_err-ask_lines.result c.from_residual-in_err-ask_lines.ensures.1 in
    rw (exit.1, exit.2) (c.ask_lines.new.chunk, c.in_err-ask_lines.ensures.stands)

pub returns-then-is_err-clause-stands : goal.returns-then-is_err-clause-stands
returns-then-is_err-clause-stands g c =
    let s = c.in_ok-ask_lines.ensures.stands in
    let owed : c.keep.new.self ≡ c.ask_lines.new.client.wires = search rules in
    (c.ask_lines.new.chunk, (s.0, s.1, rw owed (unheard _ _ _ _ _ _ _ s.2)))

pub returns-clause-ok : goal.returns-clause-ok
returns-clause-ok g c =
    let s = c.in_ok-ask_lines.ensures.stands in
    let kept : c.keep.new.self ≡ record { held = c.ask_lines.new.chunk; owed = c.ask_lines.new.client.wires.owed } = search rules in
    (s.0, s.1, rw kept s.2)

pub returns-clause-stands : goal.returns-clause-stands
returns-clause-stands g c =
    let s = c.in_ok-ask_lines.ensures.stands in
    let kept : c.keep.new.self ≡ record { held = c.ask_lines.new.chunk; owed = c.ask_lines.new.client.wires.owed } = search rules in
    (c.ask_lines.new.chunk, (s.0, s.1, rw kept s.2))
