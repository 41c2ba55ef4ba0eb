use Rattle.std.proofs.Common.{◌≡◌}
use Rattle.ifdb_turn.specs.Passes.{shares, BelongsTo}
use Rattle.bench_turn.proofs.turns.visit_often.Given as goal

abbrev pub invariant-loop-i : goal.invariant-loop-i
invariant-loop-i g l = record {
  belongs : BelongsTo l.turnstile l.pass;
  same_shares : shares l.pass ≡ shares l.initial.pass;
}
