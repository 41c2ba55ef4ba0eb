use Rattle.std.proofs.Common.{◌≡◌, Some, ap, refl, rules}
use Rattle.slab.specs.Slab.{get}
use Rattle.ifdb_loop.proofs.Crowding.{AreServed-changed, numbers_changed}
use Rattle.ifdb_loop.proofs.crowd.flush_at.Goals as goal

pub flush-requires-clause-served : goal.flush-requires-clause-served
flush-requires-clause-served g c κs within =
    let was : get c.args.clients.now c.args.key ≡ Some c.in-Some.client = search rules in
    c.requires.served.each c.args.key c.in-Some.client was

pub returns-clause-served : goal.returns-clause-served
returns-clause-served g c =
    let was : get c.args.clients.now c.args.key ≡ Some c.in-Some.client = search rules in
    let seat : c.list-is_new.new.self.seat ≡ c.in-Some.client.seat = search rules in
    AreServed-changed g.S.Service g.P.Port c.args.service.now c.args.service.now c.args.clients.now c.try_remove.new.self c.insert_reserved.new.self
    c.args.key c.in-Some.client c.list-is_new.new.self c.requires.served was c.in-Some.ensures.updates (search rules) (ap g.S.Service.number seat)
    (λ _ _ _ says. says) refl (rw c.list-is_new.ensures c.flush.ensures.served)

pub returns-clause-numbers : goal.returns-clause-numbers
returns-clause-numbers g c =
    let was : get c.args.clients.now c.args.key ≡ Some c.in-Some.client = search rules in
    let seat : c.list-is_new.new.self.seat ≡ c.in-Some.client.seat = search rules in
    numbers_changed g.S.Service c.args.clients.now c.try_remove.new.self c.insert_reserved.new.self c.args.key c.in-Some.client c.list-is_new.new.self was
    c.in-Some.ensures.updates (search rules) (ap g.S.Service.number seat)
