use Rattle.std.proofs.Common.{◌<◌, sym, subst, rules}
use Rattle.ifdb_turn.specs.Places.{times}
use Rattle.bench_turn.proofs.Roots.{times_more}
use Rattle.bench_turn.proofs.entries.add.Goals as goal

pub returns-clause-kept : goal.returns-clause-kept
returns-clause-kept g c = let own = subst (λ ns. 0 < times c.args.root ns) (sym c.finish.ensures.places) (times_more _ _ _ (search rules)) in search rules
