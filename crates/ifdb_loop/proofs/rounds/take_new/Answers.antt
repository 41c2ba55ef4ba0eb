use Rattle.std.proofs.Common.{◌≡◌, ◌∙◌, ◌+◌, None, ap, refl, rules}
use Rattle.ifdb_loop.proofs.Leaving.{Remembers}
use Rattle.ifdb_loop.proofs.Ordering.{order_on}
use Rattle.ifdb_loop.proofs.rounds.take_new.Goals as goal

pub loop-init : goal.loop-init
loop-init g c = record {
  ready = c.requires.ready;
  goes_on = g.met.S.Service.goes_itself _;
  kept = c.requires.kept;
  served = c.requires.served;
  order = c.requires.order;
  out = c.requires.out;
  steady = record { most = refl; ended = refl; faults = refl };
}

pub take_in-requires-clause-order : goal.take_in-requires-clause-order
take_in-requires-clause-order g c κs within =
    let i = c.loop.invariant in
    let m : Remembers g.S.Service g.G.Port.Port c.loop.service c.loop.service (g.G.Gate.faults c.loop.gate) (g.G.Gate.faults c.next.new.self) = record {
      over = λ n d. g.met.S.Service.stays_over _ _ n d (g.met.S.Service.goes_itself _);
      limit = g.met.S.Service.keeps_limit _ _ (g.met.S.Service.goes_itself _);
      failed = g.met.S.Service.stays_failed _ _ (g.met.S.Service.goes_itself _);
      faults = λ lt. rw c.next.ensures.faults lt;
    } in
    order_on g.S.Service g.G.Port.Port g.G.Gate c.loop.service c.loop.service c.loop.gate c.next.new.self _ _ m refl c.next.ensures.back refl i.order

pub take_in-requires-clause-out : goal.take_in-requires-clause-out
take_in-requires-clause-out g c κs within = c.in-Some.ensures.more ∙ ap (λ n. n + 1) c.loop.invariant.out

pub loop-preserved : goal.loop-preserved
loop-preserved g c =
    let i = c.loop.invariant in
    let done = c.take_in.ensures in
    let next = c.next.ensures in
    record {
      ready = done.ready;
      goes_on = g.met.S.Service.goes_further _ _ _ i.goes_on done.goes_on;
      kept = done.kept;
      served = done.served;
      order = done.order;
      out = done.out;
      steady = record {
        most = done.steady.most ∙ (next.most ∙ i.steady.most);
        ended = done.steady.ended ∙ (next.end ∙ i.steady.ended);
        faults = done.steady.faults ∙ (next.faults ∙ i.steady.faults);
      };
    }

pub returns-in_default-clause-order : goal.returns-in_default-clause-order
returns-in_default-clause-order g c =
    let i = c.loop.invariant in
    let m : Remembers g.S.Service g.G.Port.Port c.loop.service c.loop.service (g.G.Gate.faults c.loop.gate) (g.G.Gate.faults c.next.new.self) = record {
      over = λ n d. g.met.S.Service.stays_over _ _ n d (g.met.S.Service.goes_itself _);
      limit = g.met.S.Service.keeps_limit _ _ (g.met.S.Service.goes_itself _);
      failed = g.met.S.Service.stays_failed _ _ (g.met.S.Service.goes_itself _);
      faults = λ lt. rw c.next.ensures.faults lt;
    } in
    order_on g.S.Service g.G.Port.Port g.G.Gate c.loop.service c.loop.service c.loop.gate c.next.new.self _ _ m refl c.next.ensures.back refl i.order

pub returns-in_default-clause-out : goal.returns-in_default-clause-out
returns-in_default-clause-out g c =
    let none : c.next.result ≡ None = search rules in
    let same = rw none at c.next.ensures.same in
    same ∙ c.loop.invariant.out

pub returns-in_default-clause-steady : goal.returns-in_default-clause-steady
returns-in_default-clause-steady g c =
    let i = c.loop.invariant in
    let next = c.next.ensures in
    record {
      most = next.most ∙ i.steady.most;
      ended = next.end ∙ i.steady.ended;
      faults = next.faults ∙ i.steady.faults;
    }
