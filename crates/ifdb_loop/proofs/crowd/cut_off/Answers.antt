use Rattle.std.proofs.Common.{◌≡◌, Some, rules}
use Rattle.slab.specs.Slab.{get}
use Rattle.ifdb_loop.proofs.Crowding.{AreServed-left, empty_still, numbers_fewer}
use Rattle.ifdb_loop.proofs.Leaving.{was_cut}
use Rattle.ifdb_loop.proofs.crowd.cut_off.Goals as goal

pub end-requires-clause-says : goal.end-requires-clause-says
end-requires-clause-says g c κs within =
    let was : get c.args.clients.now c.args.key ≡ Some c.in-Some.client = search rules in
    let x = c.requires.served.each c.args.key c.in-Some.client was in
    (x.0.0, x.0.1)

pub returns-clause-served : goal.returns-clause-served
returns-clause-served g c =
    let was : get c.args.clients.now c.args.key ≡ Some c.in-Some.client = search rules in
    AreServed-left g.S.Service g.P.Port c.args.service.now c.end.new.service c.args.clients.now c.try_remove.new.self c.args.key c.in-Some.client
    c.requires.served was c.in-Some.ensures.updates c.end.ensures.others (g.met.S.Service.keeps_limit _ _ c.end.ensures.goes_on)

pub returns-clause-over : goal.returns-clause-over
returns-clause-over g c =
    let was : get c.args.clients.now c.args.key ≡ Some c.in-Some.client = search rules in
    λ faults halted. record {
      number = g.S.Service.number c.in-Some.client.seat;
      fewer = numbers_fewer g.S.Service c.args.clients.now c.try_remove.new.self c.args.key c.in-Some.client was c.in-Some.ensures.updates;
      served = was_cut g.S.Service g.P.Port c.args.service.now c.end.new.service faults c.args.halt c.in-Some.client c.end.result
          (c.requires.served.each c.args.key c.in-Some.client was) halted c.end.ensures.over (g.met.S.Service.keeps_limit _ _ c.end.ensures.goes_on) (search rules);
    }

pub returns-in_default-clause-gone : goal.returns-in_default-clause-gone
returns-in_default-clause-gone g c = c.try_remove.ensures.updates.changed

pub returns-in_default-clause-rest : goal.returns-in_default-clause-rest
returns-in_default-clause-rest g c = λ j none. empty_still c.args.clients.now c.try_remove.new.self c.args.key j c.try_remove.ensures.updates none

pub returns-clause-rest : goal.returns-clause-rest
returns-clause-rest g c = λ j none. empty_still c.args.clients.now c.try_remove.new.self c.args.key j c.try_remove.ensures.updates none
