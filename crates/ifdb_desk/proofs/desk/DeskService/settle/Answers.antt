use Rattle.std.proofs.Common.{sym, refl, subst}
use Rattle.std.proofs.Math.Nat.{le_refl}
use Rattle.ifdb_turn.specs.Passes.{history, places}
use Rattle.ifdb_session.specs.Seats.{IsSeated}
use Rattle.ifdb_session.proofs.Apart.{seat_later}
use Rattle.ifdb_desk.proofs.Passing.{opened_waiting}
use Rattle.ifdb_desk.proofs.Saying.{says_later}
use Rattle.ifdb_desk.proofs.desk.DeskService.settle.Goals as goal

pub returns-clause-goes_on : goal.returns-clause-goes_on
returns-clause-goes_on g c =
    let e = c.settle.ensures in
    record { hall = refl; limit = refl; begins = e.sees.begins; right = λ _. e.sees.orderly.0; shares = e.sees.shares; keeper = e.goes_on; held = e.shares }

pub returns-clause-ready : goal.returns-clause-ready
returns-clause-ready g c =
    let e = c.settle.ensures in
    record { belongs = e.sees.belongs; orderly = e.sees.orderly; keeper = e.ready; settled = λ _. c.in_ok-settle.ensures.kept }

pub returns-clause-says : goal.returns-clause-says
returns-clause-says g c = λ place d says.
    let e = c.settle.ensures in
    says_later g.Q.Records g.S.Settles g.met.S.Settles.stays_kept c.args.self.now _ place d says e.sees.begins e.sees.orderly.0 (le_refl _) e.goes_on
    (λ seated. let later = seat_later g.Q.Records.first (history c.args.self.now.pass) (history c.settle.new.pass) e.sees.begins e.sees.orderly.0 (places c.args.self.now.pass) e.away place.seat seated in
    (subst (λ own. IsSeated g.Q.Records.first (history c.settle.new.pass) own place.seat) (sym e.places) later.0, later.1))

pub returns-clause-opened : goal.returns-clause-opened
returns-clause-opened g c = opened_waiting g.Q.Records.first c.args.self.now.pass c.settle.new.pass c.settle.ensures.sees.begins c.requires.orderly c.settle.ensures.places

pub returns-in_err-settle-clause-opened : goal.returns-in_err-settle-clause-opened
returns-in_err-settle-clause-opened g c = opened_waiting g.Q.Records.first c.args.self.now.pass c.settle.new.pass c.settle.ensures.sees.begins c.requires.orderly c.settle.ensures.places

pub returns-in_err-settle-clause-says : goal.returns-in_err-settle-clause-says
returns-in_err-settle-clause-says g c = λ place d says.
    let e = c.settle.ensures in
    says_later g.Q.Records g.S.Settles g.met.S.Settles.stays_kept c.args.self.now _ place d says e.sees.begins e.sees.orderly.0 (le_refl _) e.goes_on
    (λ seated. let later = seat_later g.Q.Records.first (history c.args.self.now.pass) (history c.settle.new.pass) e.sees.begins e.sees.orderly.0 (places c.args.self.now.pass) e.away place.seat seated in
    (subst (λ own. IsSeated g.Q.Records.first (history c.settle.new.pass) own place.seat) (sym e.places) later.0, later.1))
