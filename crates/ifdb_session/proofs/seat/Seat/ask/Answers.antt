use Rattle.std.proofs.Common.{refl}
use Rattle.ifdb_session.proofs.seat.Seat.ask.Goals as goal

pub returns : goal.returns
returns c = record {
  before = c.in-Some.session;
  now = c.ask_lent.new.session;
  is_refused = c.in-Some-ask_lent.is_refused;
  was = c.in-Some.is;
  is = refl;
  told = c.in-Some-ask_lent.ensures;
  number = refl;
  work = c.and-self.ensures;
}
