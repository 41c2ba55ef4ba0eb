use Rattle.std.proofs.Common.{◌≡◌, ◌∷◌, None, length, refl, rules, arith}
use Rattle.std.proofs.lemmas.List.Sorted.{length_permutation}
use Rattle.ifdb_loop.specs.Crowd.{numbers_in}
use Rattle.ifdb_loop.proofs.Leaving.{Remembers, halted_later}
use Rattle.ifdb_loop.proofs.Ordering.{order_on, order_over}
use Rattle.ifdb_loop.proofs.rounds.close_at.Goals as goal

pub returns-in_default-clause-order : goal.returns-in_default-clause-order
returns-in_default-clause-order g c =
    let goes = c.cut_off.ensures.goes_on in
    let none : c.cut_off.result ≡ None = search rules in
    let same = rw none at c.cut_off.ensures.none in
    let m : Remembers g.S.Service g.G.Port.Port c.args.service.now c.cut_off.new.service (g.G.Gate.faults c.args.gate.now) (g.G.Gate.faults c.args.gate.now) = record {
      over = λ n d. g.met.S.Service.stays_over _ _ n d goes;
      limit = g.met.S.Service.keeps_limit _ _ goes;
      failed = g.met.S.Service.stays_failed _ _ goes;
      faults = λ lt. lt;
    } in
    order_on g.S.Service g.G.Port.Port g.G.Gate c.args.service.now c.cut_off.new.service c.args.gate.now c.args.gate.now _ _ m
    c.cut_off.ensures.opened refl same c.requires.order

pub returns-in_default-clause-out : goal.returns-in_default-clause-out
returns-in_default-clause-out g c =
    let none : c.cut_off.result ≡ None = search rules in
    let same = rw none at c.cut_off.ensures.none in
    rw same c.requires.out

pub done-requires : goal.done-requires
done-requires g c =
    let m : Remembers g.S.Service g.G.Port.Port c.args.service.now c.cut_off.new.service (g.G.Gate.faults c.args.gate.now) (g.G.Gate.faults c.args.gate.now) = record {
      over = λ n d. g.met.S.Service.stays_over _ _ n d c.cut_off.ensures.goes_on;
      limit = g.met.S.Service.keeps_limit _ _ c.cut_off.ensures.goes_on;
      failed = g.met.S.Service.stays_failed _ _ c.cut_off.ensures.goes_on;
      faults = λ lt. lt;
    } in
    let still = halted_later g.S.Service g.G.Port.Port c.args.service.now c.cut_off.new.service (g.G.Gate.faults c.args.gate.now) (g.G.Gate.faults c.args.gate.now) c.args.halt m c.requires.halted in
    let out = c.in-Some.ensures.over (g.G.Gate.faults c.args.gate.now) still in
    let longer : length (numbers_in g.S.Service c.args.clients.now) ≡ length (out.number ∷ numbers_in g.S.Service c.cut_off.new.clients) = length_permutation _ _ out.fewer in
    omega (arith, longer, c.requires.out)

pub returns-clause-out : goal.returns-clause-out
returns-clause-out g c =
    let m : Remembers g.S.Service g.G.Port.Port c.args.service.now c.cut_off.new.service (g.G.Gate.faults c.args.gate.now) (g.G.Gate.faults c.args.gate.now) = record {
      over = λ n d. g.met.S.Service.stays_over _ _ n d c.cut_off.ensures.goes_on;
      limit = g.met.S.Service.keeps_limit _ _ c.cut_off.ensures.goes_on;
      failed = g.met.S.Service.stays_failed _ _ c.cut_off.ensures.goes_on;
      faults = λ lt. lt;
    } in
    let still = halted_later g.S.Service g.G.Port.Port c.args.service.now c.cut_off.new.service (g.G.Gate.faults c.args.gate.now) (g.G.Gate.faults c.args.gate.now) c.args.halt m c.requires.halted in
    let out = c.in-Some.ensures.over (g.G.Gate.faults c.args.gate.now) still in
    let longer : length (numbers_in g.S.Service c.args.clients.now) ≡ length (out.number ∷ numbers_in g.S.Service c.cut_off.new.clients) = length_permutation _ _ out.fewer in
    omega (arith, longer, c.requires.out, c.done.ensures.out)

pub returns-clause-order : goal.returns-clause-order
returns-clause-order g c =
    let m : Remembers g.S.Service g.G.Port.Port c.args.service.now c.cut_off.new.service (g.G.Gate.faults c.args.gate.now) (g.G.Gate.faults c.done.new.self) = record {
      over = λ n d. g.met.S.Service.stays_over _ _ n d c.cut_off.ensures.goes_on;
      limit = g.met.S.Service.keeps_limit _ _ c.cut_off.ensures.goes_on;
      failed = g.met.S.Service.stays_failed _ _ c.cut_off.ensures.goes_on;
      faults = λ lt. rw c.done.ensures.faults lt;
    } in
    let still = halted_later g.S.Service g.G.Port.Port c.args.service.now c.cut_off.new.service (g.G.Gate.faults c.args.gate.now) (g.G.Gate.faults c.done.new.self) c.args.halt m c.requires.halted in
    let out = c.in-Some.ensures.over (g.G.Gate.faults c.done.new.self) still in
    order_over g.S.Service g.G.Port.Port g.G.Gate c.args.service.now c.cut_off.new.service c.args.gate.now c.done.new.self _ _
    (record { over = c.in-Some.over; number = out.number }) m c.cut_off.ensures.opened c.done.ensures.back out.fewer out.served c.requires.order
