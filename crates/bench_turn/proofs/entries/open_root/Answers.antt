use Rattle.std.proofs.Common.{◌<◌, sym, subst, rules}
use Rattle.ifdb_turn.specs.Places.{times}
use Rattle.bench_turn.proofs.Roots.{times_last}
use Rattle.bench_turn.proofs.entries.open_root.Goals as goal

pub returns-clause-own : goal.returns-clause-own
returns-clause-own g c = let own = subst (λ ns. 0 < times c.object-entries.result.now.count ns) (sym c.finish.ensures.places) (times_last _ _ _ (search rules)) in search rules
