use Rattle.std.proofs.Common.{◌≡◌, []}
use Rattle.ifdb_turn.specs.Passes.{shares, BelongsTo, IsOrderly}
use Rattle.ifdb_turn.specs.Views.{all_shares}
use Rattle.ifdb_session.specs.Starts.{start_of}
use Rattle.ifdb_history.specs.History.{IsRight}
use Rattle.test_session.proofs.tests.serve.Given as goal

-- the pass may have a turn again, and has all shares
abbrev pub invariant-loop-link : goal.invariant-loop-link
invariant-loop-link g l = record {
  belongs : BelongsTo l.hall l.pass;
  orderly : IsOrderly (IsRight (start_of [])) l.pass;
  all : shares l.pass ≡ all_shares;
}
