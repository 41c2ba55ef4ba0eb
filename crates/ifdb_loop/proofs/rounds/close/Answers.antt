use Rattle.std.proofs.Common.{◌≤◌, ◌∙◌, length, refl, arith}
use Rattle.ifdb_loop.proofs.Crowding.{all_gone, gone_on, numbers_none}
use Rattle.ifdb_loop.proofs.Leaving.{Remembers, halted_later}
use Rattle.ifdb_loop.proofs.rounds.close.Goals as goal

pub loop-key-init : goal.loop-key-init
loop-key-init g c = record {
  ready = c.requires.ready;
  goes_on = g.met.S.Service.goes_itself _;
  served = c.requires.served;
  order = c.requires.order;
  out = c.requires.out;
  steady = record { most = refl; ended = refl; faults = refl };
  halted = c.requires.halted;
  gone = λ j below. absurd (omega (arith, below));
  slots = refl;
}

pub loop-key-preserved : goal.loop-key-preserved
loop-key-preserved g c =
    let i = c.loop-key.invariant in
    let done = c.close_at.ensures in
    let m : Remembers g.S.Service g.G.Port.Port c.loop-key.service c.close_at.new.service (g.G.Gate.faults c.loop-key.gate) (g.G.Gate.faults c.close_at.new.gate) = record {
      over = λ n d. g.met.S.Service.stays_over _ _ n d done.goes_on;
      limit = g.met.S.Service.keeps_limit _ _ done.goes_on;
      failed = g.met.S.Service.stays_failed _ _ done.goes_on;
      faults = λ lt. rw done.steady.faults lt;
    } in
    record {
      ready = done.ready;
      goes_on = g.met.S.Service.goes_further _ _ _ i.goes_on done.goes_on;
      served = done.served;
      order = done.order;
      out = done.out;
      steady = record {
        most = done.steady.most ∙ i.steady.most;
        ended = done.steady.ended ∙ i.steady.ended;
        faults = done.steady.faults ∙ i.steady.faults;
      };
      halted = halted_later g.S.Service g.G.Port.Port c.loop-key.service c.close_at.new.service (g.G.Gate.faults c.loop-key.gate) (g.G.Gate.faults c.close_at.new.gate) c.args.halt m i.halted;
      gone = gone_on c.loop-key.clients c.close_at.new.clients c.loop-key.key done.gone done.rest i.gone;
      slots = done.slots ∙ i.slots;
    }

pub returns-clause-none : goal.returns-clause-none
returns-clause-none g c =
    let i = c.loop-key.invariant in
    let size : length c.loop-key.clients.slots ≤ c.loop-key.key = omega (arith, i.slots, c.capacity-key-end.ensures.slots, c.loop-key-test.false) in
    numbers_none g.S.Service c.loop-key.clients (all_gone c.loop-key.clients c.loop-key.key size i.gone)
