use Rattle.std.proofs.Common.{◌≡◌, Some, rules}
use Rattle.slab.specs.Slab.{get}
use Rattle.ifdb_loop.proofs.Crowding.{AreServed-changed, numbers_changed}
use Rattle.ifdb_loop.proofs.crowd.turn_at.Goals as goal

pub turn-requires-clause-served : goal.turn-requires-clause-served
turn-requires-clause-served g c κs within =
    let was : get c.args.clients.now c.args.key ≡ Some c.in-Some.client = search rules in
    c.requires.served.each c.args.key c.in-Some.client was

pub returns-clause-served : goal.returns-clause-served
returns-clause-served g c =
    let was : get c.args.clients.now c.args.key ≡ Some c.in-Some.client = search rules in
    AreServed-changed g.S.Service g.P.Port c.args.service.now c.turn.new.service c.args.clients.now c.try_remove.new.self c.insert_reserved.new.self
    c.args.key c.in-Some.client c.turn.new.client c.requires.served was c.in-Some.ensures.updates (search rules) c.turn.ensures.number c.turn.ensures.others
    (g.met.S.Service.keeps_limit _ _ c.turn.ensures.goes_on) c.turn.ensures.served

pub returns-clause-numbers : goal.returns-clause-numbers
returns-clause-numbers g c =
    let was : get c.args.clients.now c.args.key ≡ Some c.in-Some.client = search rules in
    numbers_changed g.S.Service c.args.clients.now c.try_remove.new.self c.insert_reserved.new.self c.args.key c.in-Some.client c.turn.new.client was
    c.in-Some.ensures.updates (search rules) c.turn.ensures.number
