use Rattle.std.proofs.Common.{◌∙◌, refl, sym}
use Rattle.std.proofs.lemmas.Bool.{eqb-true}
use Rattle.slab.specs.Slab.{slab_len}
use Rattle.ifdb_loop.proofs.Crowding.{numbers_empty}
use Rattle.ifdb_loop.proofs.rounds.go_on.Goals as goal

pub loop-arrivals-init : goal.loop-arrivals-init
loop-arrivals-init g c = record {
  ready = c.requires.ready;
  goes_on = g.met.S.Service.goes_itself _;
  served = c.requires.served;
  order = c.requires.order;
  out = c.requires.out;
  faults = refl;
}

pub returns-in_err-arrivals-clause-goes_on : goal.returns-in_err-arrivals-clause-goes_on
returns-in_err-arrivals-clause-goes_on g c = g.met.S.Service.goes_further _ _ _ c.loop-arrivals.invariant.goes_on c.go_round.ensures.goes_on

pub returns-then-is_empty-clause-none : goal.returns-then-is_empty-clause-none
returns-then-is_empty-clause-none g c =
    let zero = eqb-true (slab_len c.go_round.new.clients) 0 (sym c.is_empty.ensures ∙ c.if-is_empty.true) in
    numbers_empty g.S.Service c.go_round.new.clients zero
