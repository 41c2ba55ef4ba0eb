use Rattle.std.proofs.Common.{◌≡◌, Some, rules}
use Rattle.slab.specs.Slab.{get}
use Rattle.ifdb_loop.proofs.Crowding.{AreServed-left, ended_is, numbers_fewer}
use Rattle.ifdb_loop.proofs.Leaving.{was_served}
use Rattle.ifdb_loop.proofs.crowd.hang_up.Goals as goal

pub end-requires-clause-says : goal.end-requires-clause-says
end-requires-clause-says g c κs within =
    let was : get c.args.clients.now c.args.key ≡ Some c.in-Some-try_remove.client = search rules in
    let x = c.requires.served.each c.args.key c.in-Some-try_remove.client was in
    (x.0.0, x.0.1)

pub returns-clause-served : goal.returns-clause-served
returns-clause-served g c =
    let was : get c.args.clients.now c.args.key ≡ Some c.in-Some-try_remove.client = search rules in
    AreServed-left g.S.Service g.P.Port c.args.service.now c.end.new.service c.args.clients.now c.try_remove.new.self c.args.key c.in-Some-try_remove.client
    c.requires.served was c.in-Some-try_remove.ensures.updates c.end.ensures.others (g.met.S.Service.keeps_limit _ _ c.end.ensures.goes_on)

pub returns-clause-over : goal.returns-clause-over
returns-clause-over g c =
    let was : get c.args.clients.now c.args.key ≡ Some c.in-Some-try_remove.client = search rules in
    let ended = ended_is c.args.clients.now c.args.key c.in-Some-try_remove.client c.in-Some.ending was c.in-Some.ensures in
    λ faults. record {
      number = g.S.Service.number c.in-Some-try_remove.client.seat;
      fewer = numbers_fewer g.S.Service c.args.clients.now c.try_remove.new.self c.args.key c.in-Some-try_remove.client was c.in-Some-try_remove.ensures.updates;
      served = was_served g.S.Service g.P.Port c.args.service.now c.end.new.service faults c.in-Some-try_remove.client c.end.result c.in-Some.ending
          (c.requires.served.each c.args.key c.in-Some-try_remove.client was) ended.0 c.end.ensures.over (g.met.S.Service.keeps_limit _ _ c.end.ensures.goes_on) c.end.ensures.result ended.1;
    }
