use Rattle.std.proofs.Common.{◌≡◌, ◌<◌}
use Rattle.ifdb_turn.specs.Places.{times}
use Rattle.ifdb_turn.specs.Passes.{places, shares, BelongsTo}
use Rattle.bench_turn.proofs.entries.add_often.Given as goal

abbrev pub invariant-loop-i : goal.invariant-loop-i
invariant-loop-i g l = record {
  belongs : BelongsTo l.turnstile l.pass;
  same_shares : shares l.pass ≡ shares l.initial.pass;
  own : 0 < times l.root (places l.pass);
}
