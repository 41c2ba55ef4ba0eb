use Rattle.std.proofs.Common.{◌∙◌, refl, arith}
use Rattle.ifdb_loop.proofs.Leaving.{Remembers}
use Rattle.ifdb_loop.proofs.Ordering.{order_on}
use Rattle.ifdb_loop.proofs.rounds.go_round.Goals as goal

pub returns-in-Err-clause-goes_on : goal.returns-in-Err-clause-goes_on
returns-in-Err-clause-goes_on g c = g.met.S.Service.goes_itself _

pub returns-in-Err-clause-order : goal.returns-in-Err-clause-order
returns-in-Err-clause-order g c =
    let goes = g.met.S.Service.goes_itself c.args.service.now in
    let m : Remembers g.S.Service g.G.Port.Port c.args.service.now c.args.service.now (g.G.Gate.faults c.args.gate.now) (g.G.Gate.faults c.wait.new.self) = record {
      over = λ n d. g.met.S.Service.stays_over _ _ n d goes;
      limit = g.met.S.Service.keeps_limit _ _ goes;
      failed = g.met.S.Service.stays_failed _ _ goes;
      faults = λ lt. omega (arith, lt, c.wait.ensures.cause.later);
    } in
    order_on g.S.Service g.G.Port.Port g.G.Gate c.args.service.now c.args.service.now c.args.gate.now c.wait.new.self _ _ m refl c.wait.ensures.back refl c.requires.order

pub returns-in-Err-clause-out : goal.returns-in-Err-clause-out
returns-in-Err-clause-out g c = c.wait.ensures.out ∙ c.requires.out

pub returns-in-Err-clause-gate : goal.returns-in-Err-clause-gate
returns-in-Err-clause-gate g c = λ _. c.in-Err.ensures.cause.failed

pub returns-in-Err-clause-halted : goal.returns-in-Err-clause-halted
returns-in-Err-clause-halted g c = omega (arith, c.in-Err.ensures.cause.failed)

pub returns-then-is_err-clause-order : goal.returns-then-is_err-clause-order
returns-then-is_err-clause-order g c =
    let goes = c.round.ensures.goes_on in
    let m : Remembers g.S.Service g.G.Port.Port c.args.service.now c.round.new.service (g.G.Gate.faults c.args.gate.now) (g.G.Gate.faults c.wait.new.self) = record {
      over = λ n d. g.met.S.Service.stays_over _ _ n d goes;
      limit = g.met.S.Service.keeps_limit _ _ goes;
      failed = g.met.S.Service.stays_failed _ _ goes;
      faults = λ lt. omega (arith, lt, c.wait.ensures.cause.later);
    } in
    order_on g.S.Service g.G.Port.Port g.G.Gate c.args.service.now c.round.new.service c.args.gate.now c.wait.new.self _ _ m
    c.round.ensures.opened c.wait.ensures.back c.round.ensures.numbers c.requires.order

pub returns-then-is_err-clause-out : goal.returns-then-is_err-clause-out
returns-then-is_err-clause-out g c = rw c.round.ensures.numbers (c.wait.ensures.out ∙ c.requires.out)

pub give_back-requires-clause-order : goal.give_back-requires-clause-order
give_back-requires-clause-order g c κs within =
    let goes = c.round.ensures.goes_on in
    let m : Remembers g.S.Service g.G.Port.Port c.args.service.now c.round.new.service (g.G.Gate.faults c.args.gate.now) (g.G.Gate.faults c.wait.new.self) = record {
      over = λ n d. g.met.S.Service.stays_over _ _ n d goes;
      limit = g.met.S.Service.keeps_limit _ _ goes;
      failed = g.met.S.Service.stays_failed _ _ goes;
      faults = λ lt. omega (arith, lt, c.wait.ensures.cause.later);
    } in
    order_on g.S.Service g.G.Port.Port g.G.Gate c.args.service.now c.round.new.service c.args.gate.now c.wait.new.self _ _ m
    c.round.ensures.opened c.wait.ensures.back c.round.ensures.numbers c.requires.order

pub give_back-requires-clause-out : goal.give_back-requires-clause-out
give_back-requires-clause-out g c κs within = rw c.round.ensures.numbers (c.wait.ensures.out ∙ c.requires.out)

pub returns-clause-goes_on : goal.returns-clause-goes_on
returns-clause-goes_on g c =
    g.met.S.Service.goes_further _ _ _ c.round.ensures.goes_on (g.met.S.Service.goes_further _ _ _ c.give_back.ensures.goes_on c.take_new.ensures.goes_on)

pub returns-clause-fewer : goal.returns-clause-fewer
returns-clause-fewer g c = rw (c.take_new.ensures.steady.most, c.give_back.ensures.steady.most) c.in-Ok.ensures.fewer

pub returns-clause-end : goal.returns-clause-end
returns-clause-end g c = c.take_new.ensures.steady.ended ∙ (c.give_back.ensures.steady.ended ∙ c.in-Ok.ensures.end)

pub returns-clause-faults : goal.returns-clause-faults
returns-clause-faults g c = λ _. c.take_new.ensures.steady.faults ∙ (c.give_back.ensures.steady.faults ∙ c.in-Ok.ensures.cause.kept)
