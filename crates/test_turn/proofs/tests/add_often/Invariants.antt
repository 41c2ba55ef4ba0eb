use Rattle.std.proofs.Common.{◌≡◌, ◌+◌, length}
use Rattle.ifdb_turn.specs.Passes.{places, shares, BelongsTo}
use Rattle.test_turn.proofs.tests.add_often.Given as goal

abbrev pub invariant-loop-i : goal.invariant-loop-i
invariant-loop-i g l = record {
  belongs : BelongsTo l.turnstile l.pass;
  same_shares : shares l.pass ≡ shares l.initial.pass;
  more : length (places l.pass) ≡ length (places l.initial.pass) + l.i;
}
