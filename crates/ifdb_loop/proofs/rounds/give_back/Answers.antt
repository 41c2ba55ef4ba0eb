use Rattle.std.proofs.Common.{◌∙◌, refl}
use Rattle.ifdb_loop.proofs.rounds.give_back.Goals as goal

pub loop-key-init : goal.loop-key-init
loop-key-init g c = record {
  ready = c.requires.ready;
  goes_on = g.met.S.Service.goes_itself _;
  kept = c.requires.kept;
  served = c.requires.served;
  order = c.requires.order;
  out = c.requires.out;
  steady = record { most = refl; ended = refl; faults = refl };
}

pub loop-key-preserved : goal.loop-key-preserved
loop-key-preserved g c =
    let i = c.loop-key.invariant in
    let done = c.give_back_at.ensures in
    record {
      ready = done.ready;
      goes_on = g.met.S.Service.goes_further _ _ _ i.goes_on done.goes_on;
      kept = done.kept;
      served = done.served;
      order = done.order;
      out = done.out;
      steady = record {
        most = done.steady.most ∙ i.steady.most;
        ended = done.steady.ended ∙ i.steady.ended;
        faults = done.steady.faults ∙ i.steady.faults;
      };
    }
