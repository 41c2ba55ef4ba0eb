use Rattle.std.proofs.Common.{◌∙◌, refl}
use Rattle.ifdb_loop.proofs.Crowding.{AreServed-settled}
use Rattle.ifdb_loop.proofs.crowd.round.Goals as goal

pub loop-key-init : goal.loop-key-init
loop-key-init g c = record {
  ready = c.requires.ready;
  goes_on = g.met.S.Service.goes_itself _;
  opened = refl;
  served = c.requires.served;
  numbers = refl;
}

pub loop-key-preserved : goal.loop-key-preserved
loop-key-preserved g c = record {
  ready = c.turn_at.ensures.ready;
  goes_on = g.met.S.Service.goes_further _ _ _ c.loop-key.invariant.goes_on c.turn_at.ensures.goes_on;
  opened = c.turn_at.ensures.opened ∙ c.loop-key.invariant.opened;
  served = c.turn_at.ensures.served;
  numbers = c.turn_at.ensures.numbers ∙ c.loop-key.invariant.numbers;
}

pub returns-in_err-settle-clause-goes_on : goal.returns-in_err-settle-clause-goes_on
returns-in_err-settle-clause-goes_on g c = g.met.S.Service.goes_further _ _ _ c.loop-key.invariant.goes_on c.settle.ensures.goes_on

pub returns-in_err-settle-clause-served : goal.returns-in_err-settle-clause-served
returns-in_err-settle-clause-served g c =
    AreServed-settled g.S.Service g.P.Port c.loop-key.service c.settle.new.self c.loop-key.clients c.settle.ensures.says (g.met.S.Service.keeps_limit _ _ c.settle.ensures.goes_on) c.loop-key.invariant.served

pub loop-key-2-init : goal.loop-key-2-init
loop-key-2-init g c = record {
  served = AreServed-settled g.S.Service g.P.Port c.loop-key.service c.settle.new.self c.loop-key.clients c.settle.ensures.says (g.met.S.Service.keeps_limit _ _ c.settle.ensures.goes_on) c.loop-key.invariant.served;
  numbers = c.loop-key.invariant.numbers;
}

pub returns-clause-goes_on : goal.returns-clause-goes_on
returns-clause-goes_on g c = g.met.S.Service.goes_further _ _ _ c.loop-key.invariant.goes_on c.settle.ensures.goes_on
