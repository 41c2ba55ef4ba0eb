use Rattle.std.proofs.Common.{◌≡◌, ℕ, ◌≤◌}
use Rattle.ifdb_io.specs.Lines.{budget}
use Rattle.ifdb_turn.specs.Passes.{history, places}
use Rattle.ifdb_session.specs.Acknowledged.{AllKept}
use Rattle.ifdb_session.specs.Passes.{Sees, Adds}
use Rattle.ifdb_session.specs.Seats.{IsSeated}
use Rattle.ifdb_session.specs.Talk.{IsTalking}
use Rattle.ifdb_session.proofs.link.talk.Given as goal

-- the lines that were taken were asked, and their texts were written
abbrev pub invariant-loop-pass : goal.invariant-loop-pass
invariant-loop-pass g l = record {
  sees : Sees g.Q.Records.first l.hall l.fn.pass l.pass;
  adds : Adds l.fn.seat.number l.fn.pass l.pass;
  number : l.seat.number ≡ l.fn.seat.number;
  seated : IsSeated g.Q.Records.first (history l.pass) (places l.pass) l.seat;
  limit : l.reader.limit ≡ l.fn.reader.limit;
  talks : IsTalking g.Q.Records.first (history l.pass) l.seat l.reader (record {
    left = g.K.Source.left l.fn.link;
    left_now = g.K.Source.left l.link;
    written = g.K.Sink.written l.fn.link;
    written_now = g.K.Sink.written l.link;
  });
  ready : g.S.Settles.ready l.keeper;
  goes_on : g.S.Settles.goes_on l.fn.keeper l.keeper;
  shares : (n : ℕ) → g.S.Settles.has_shares l.fn.keeper n → g.S.Settles.has_shares l.keeper n;
  kept : AllKept g.Q.Records g.S.Settles l.fn.seat.number (history l.pass) l.keeper;
  unfailed : g.K.Source.faults l.link ≡ g.K.Source.faults l.fn.link;
  writes : g.K.Sink.faults l.fn.link ≤ g.K.Sink.faults l.link;
}

abbrev pub decreases-loop-pass : goal.decreases-loop-pass
decreases-loop-pass g l = budget l.reader
