use Rattle.std.proofs.Common.{◌≡◌, ◌∙◌, Result, Err, refl, sym, subst, arith}
use Rattle.ifdb_loop.specs.declared.ending.Halt.{Halt}
use Rattle.ifdb_loop.specs.declared.ending.Halt.TheVariants as halts
use Rattle.ifdb_loop.specs.Standing.{HasHalted}
use Rattle.ifdb_loop.proofs.Leaving.{Remembers}
use Rattle.ifdb_loop.proofs.Ordering.{order_on}
use Rattle.ifdb_loop.proofs.rounds.serve.Goals as goal

err_is : {A : Type 0} (halt other : Halt) → ◌≡◌ {A = Result A Halt} (Err halt) (Err other) → halt ≡ other
err_is halt other e = grind (arith, e)

pub go_on-requires-clause-served : goal.go_on-requires-clause-served
go_on-requires-clause-served g c κs within = c.nobody-clients.ensures.served c.args.service.now

pub go_on-requires-clause-order : goal.go_on-requires-clause-order
go_on-requires-clause-order g c κs within = rw c.nobody-clients.ensures.numbers c.requires.order

pub go_on-requires-clause-out : goal.go_on-requires-clause-out
go_on-requires-clause-out g c κs within = rw c.nobody-clients.ensures.numbers c.requires.out

pub returns-in-Ok-clause-order : goal.returns-in-Ok-clause-order
returns-in-Ok-clause-order g c = rw c.in-Ok.ensures.none at c.go_on.ensures.order

pub returns-in-Ok-clause-out : goal.returns-in-Ok-clause-out
returns-in-Ok-clause-out g c = rw c.in-Ok.ensures.none at c.go_on.ensures.out

pub returns-clause-goes_on : goal.returns-clause-goes_on
returns-clause-goes_on g c = g.met.S.Service.goes_further _ _ _ c.go_on.ensures.goes_on c.close.ensures.goes_on

pub returns-clause-order : goal.returns-clause-order
returns-clause-order g c =
    let goes = g.met.S.Service.goes_itself c.close.new.service in
    let m : Remembers g.S.Service g.G.Port.Port c.close.new.service c.close.new.service (g.G.Gate.faults c.close.new.gate) (g.G.Gate.faults c.halt.new.self) = record {
      over = λ n d. g.met.S.Service.stays_over _ _ n d goes;
      limit = g.met.S.Service.keeps_limit _ _ goes;
      failed = g.met.S.Service.stays_failed _ _ goes;
      faults = λ lt. rw c.halt.ensures.faults lt;
    } in
    order_on g.S.Service g.G.Port.Port g.G.Gate c.close.new.service c.close.new.service c.close.new.gate c.halt.new.self _ _ m
    refl c.halt.ensures.back (sym c.close.ensures.none) c.close.ensures.order

pub returns-clause-out : goal.returns-clause-out
returns-clause-out g c = c.halt.ensures.out ∙ (rw c.close.ensures.none at c.close.ensures.out)

pub returns-clause-gate : goal.returns-clause-gate
returns-clause-gate g c = λ e. rw (c.halt.ensures.faults, c.close.ensures.steady.faults) (c.go_on.ensures.gate (c.in-Err.is ∙ e))

pub returns-clause-faults : goal.returns-clause-faults
returns-clause-faults g c = λ ne. c.halt.ensures.faults ∙ (c.close.ensures.steady.faults ∙ c.go_on.ensures.faults (λ e. ne (sym c.in-Err.is ∙ e)))

pub returns-clause-unkept : goal.returns-clause-unkept
returns-clause-unkept g c = λ e.
    let failed = subst (HasHalted g.S.Service g.G.Port.Port c.go_on.new.service (g.G.Gate.faults c.go_on.new.gate)) (err_is c.in-Err.halt halts.Unkept e) c.in-Err.ensures.halted in
    g.met.S.Service.stays_failed _ _ c.close.ensures.goes_on failed
