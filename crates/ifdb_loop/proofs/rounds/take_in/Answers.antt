use Rattle.std.proofs.Common.{◌≡◌, ◌∷◌, length, refl, arith}
use Rattle.std.proofs.lemmas.List.Sorted.{length_permutation}
use Rattle.ifdb_loop.specs.Crowd.{numbers_in}
use Rattle.ifdb_loop.proofs.Leaving.{Remembers}
use Rattle.ifdb_loop.proofs.Ordering.{order_more, order_on}
use Rattle.ifdb_loop.proofs.rounds.take_in.Goals as goal

pub returns-in-Ok-clause-order : goal.returns-in-Ok-clause-order
returns-in-Ok-clause-order g c =
    let goes = c.admit.ensures.goes_on in
    let a = c.in-Ok.ensures.admits in
    let m : Remembers g.S.Service g.G.Port.Port c.args.service.now c.admit.new.service (g.G.Gate.faults c.args.gate.now) (g.G.Gate.faults c.args.gate.now) = record {
      over = λ n d. g.met.S.Service.stays_over _ _ n d goes;
      limit = g.met.S.Service.keeps_limit _ _ goes;
      failed = g.met.S.Service.stays_failed _ _ goes;
      faults = λ lt. lt;
    } in
    order_more g.S.Service g.G.Port.Port g.G.Gate c.args.service.now c.admit.new.service c.args.gate.now c.args.gate.now _ _ a.number m a.opened refl a.fresh a.more c.requires.order

pub returns-in-Ok-clause-out : goal.returns-in-Ok-clause-out
returns-in-Ok-clause-out g c =
    let a = c.in-Ok.ensures.admits in
    let longer : length (numbers_in g.S.Service c.admit.new.clients) ≡ length (a.number ∷ numbers_in g.S.Service c.args.clients.now) = length_permutation _ _ a.more in
    omega (arith, longer, c.requires.out)

pub returns-clause-order : goal.returns-clause-order
returns-clause-order g c =
    let goes = c.admit.ensures.goes_on in
    let m : Remembers g.S.Service g.G.Port.Port c.args.service.now c.admit.new.service (g.G.Gate.faults c.args.gate.now) (g.G.Gate.faults c.refuse.new.self) = record {
      over = λ n d. g.met.S.Service.stays_over _ _ n d goes;
      limit = g.met.S.Service.keeps_limit _ _ goes;
      failed = g.met.S.Service.stays_failed _ _ goes;
      faults = λ lt. rw c.refuse.ensures.faults lt;
    } in
    order_on g.S.Service g.G.Port.Port g.G.Gate c.args.service.now c.admit.new.service c.args.gate.now c.refuse.new.self _ _ m
    c.in-Err.ensures.opened c.refuse.ensures.back c.in-Err.ensures.numbers c.requires.order

pub returns-clause-out : goal.returns-clause-out
returns-clause-out g c = rw c.in-Err.ensures.numbers (omega (arith, c.refuse.ensures.out, c.requires.out))
