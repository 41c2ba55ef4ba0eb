use Rattle.std.proofs.Common.{ap}
use Rattle.std.specs.Prelude.{count_by, nat_eq, IsPermutation}
use Rattle.std.proofs.Common.{[], subst, sym}
use Rattle.std.proofs.lemmas.List.Elements.{All-nil}
use Rattle.std.proofs.lemmas.List.Sorted.{IsPermutation-refl}
use Rattle.ifdb_gates.proofs.Looped.{caused, opened_so}
use Rattle.ifdb_gates.proofs.work.work.Goals as goal

pub serve-requires-clause-order : goal.serve-requires-clause-order
serve-requires-clause-order g c κs within = record {
  visits = [];
  back = c.requires.gate.none_back;
  served = All-nil _;
  opened = subst (IsPermutation []) (sym c.requires.none) (IsPermutation-refl []);
  once = λ n. opened_so n (ap (count_by (nat_eq n)) c.requires.none);
}

pub serve-requires-clause-out : goal.serve-requires-clause-out
serve-requires-clause-out g c κs within = c.requires.gate.none_out

pub returns : goal.returns
returns g c =
    let e = c.serve.ensures in
    record {
      ready = e.ready;
      goes_on = e.goes_on;
      order = e.order;
      none_out = e.out;
      cause = caused (g.G.Gate.ended c.serve.new.gate) c.serve.result e.end e.gate e.unkept;
    }
