use Rattle.std.proofs.Common.{◌≡◌, ◌++◌, take, rules}
use Rattle.ifdb_loop.specs.Dialogues.{with_answer}
use Rattle.ifdb_loop.proofs.Endings.{answered, answered_last, answered_unheard, unheard}
use Rattle.ifdb_loop.proofs.turn.ask.Goals as goal

pub returns-in-Err-clause-stands : goal.returns-in-Err-clause-stands
returns-in-Err-clause-stands g c =
    let s = c.requires.stands in
    (s.0, c.in-Err.ensures.unasked s.0 s.1, rw (g.met.S.Service.keeps_limit _ _ c.ask.ensures.goes_on) (unheard _ _ _ _ _ _ _ s.2))

pub returns-then-is_err-clause-stands : goal.returns-then-is_err-clause-stands
returns-then-is_err-clause-stands g c =
    let s = c.requires.stands in
    let reply = g.S.Service.text c.ask.new.self in
    let owed : c.put.new.self ≡ c.args.client.now.wires = search rules in (
      with_answer s.0 (take c.args.n c.args.chunk.now) reply c.in-Ok.is_open,
      rw c.first.ensures at c.in-Ok.ensures.told s.0 s.2.may_be_open s.1,
      rw (owed, c.pass.ensures, g.met.S.Service.keeps_limit _ _ c.ask.ensures.goes_on) (answered_unheard _ _ _ _ _ _ reply _ _ c.in-Ok.is_open s.2 c.requires.line c.requires.short),
    )

pub returns-then-not-is_open-clause-stands : goal.returns-then-not-is_open-clause-stands
returns-then-not-is_open-clause-stands g c =
    let s = c.requires.stands in
    let reply = g.S.Service.text c.ask.new.self in
    let owed : c.put.new.self ≡ record { held = c.args.client.now.wires.held; owed = c.args.client.now.wires.owed ++ reply } = search rules in (
      with_answer s.0 (take c.args.n c.args.chunk.now) reply c.in-Ok.is_open,
      rw c.first.ensures at c.in-Ok.ensures.told s.0 s.2.may_be_open s.1,
      rw (owed, c.pass.ensures, g.met.S.Service.keeps_limit _ _ c.ask.ensures.goes_on) (answered_last _ _ _ _ _ _ reply _ _ c.in-Ok.is_open s.2 c.requires.line c.requires.short (search rules)),
    )

pub returns-clause-stands : goal.returns-clause-stands
returns-clause-stands g c =
    let s = c.requires.stands in
    let reply = g.S.Service.text c.ask.new.self in
    let owed : c.put.new.self ≡ record { held = c.args.client.now.wires.held; owed = c.args.client.now.wires.owed ++ reply } = search rules in (
      with_answer s.0 (take c.args.n c.args.chunk.now) reply c.in-Ok.is_open,
      rw c.first.ensures at c.in-Ok.ensures.told s.0 s.2.may_be_open s.1,
      rw (owed, c.pass.ensures, g.met.S.Service.keeps_limit _ _ c.ask.ensures.goes_on) (answered _ _ _ _ _ _ reply _ _ c.in-Ok.is_open s.2 c.requires.line c.requires.short (search rules)),
    )
