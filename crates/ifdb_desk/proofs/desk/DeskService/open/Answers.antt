use Rattle.std.proofs.Common.{rules, refl, sym, subst, arith}
use Rattle.std.proofs.Math.Nat.{le_refl}
use Rattle.ifdb_turn.specs.Passes.{history, places}
use Rattle.ifdb_session.specs.Passes.{IsNew}
use Rattle.ifdb_session.proofs.Apart.{seat_alone}
use Rattle.ifdb_desk.proofs.Passing.{opened_fresh, opened_more, opened_waiting}
use Rattle.ifdb_desk.proofs.Saying.{goes_by, ready_by, says_later, says_new, was_opened}
use Rattle.ifdb_desk.proofs.desk.DeskService.open.Goals as goal

pub returns-clause-ready : goal.returns-clause-ready
returns-clause-ready g c = ready_by g.Q.Records g.S.Settles g.met.S.Settles.stays_kept c.args.self.now _ c.open.ensures.sees refl refl (λ is. (is, refl)) c.requires

pub returns-clause-goes_on : goal.returns-clause-goes_on
returns-clause-goes_on g c = goes_by g.Q.Records g.S.Settles g.met.S.Settles.stays_kept g.met.S.Settles.goes_itself c.args.self.now _ c.open.ensures.sees refl refl refl

pub returns-clause-new : goal.returns-clause-new
returns-clause-new g c = says_new g.Q.Records g.S.Settles g.met.S.Settles.stays_kept c.args.self.now _ _
    (subst (λ n. IsNew g.Q.Records.first n c.args.self.now.pass c.open.new.pass) (sym c.new.ensures.number) c.in_ok-number.ensures.new) refl c.new.ensures.lent c.new.ensures.work

pub returns-clause-apart : goal.returns-clause-apart
returns-clause-apart g c = λ other d says same.
    let below = c.in_ok-number.ensures.new.above other.seat.number (was_opened g.Q.Records g.S.Settles g.met.S.Settles.stays_kept c.args.self.now other d says) in
    let number = c.new.ensures.number in absurd (omega (arith, below, same, number))

pub returns-clause-others : goal.returns-clause-others
returns-clause-others g c = λ other d says.
    let sees = c.open.ensures.sees in
    says_later g.Q.Records g.S.Settles g.met.S.Settles.stays_kept c.args.self.now _ other d says sees.begins sees.orderly.0 (le_refl _) (g.met.S.Settles.goes_itself _)
    (λ seated. seat_alone g.Q.Records.first (history c.args.self.now.pass) (history c.open.new.pass) sees.begins sees.orderly.0 (places c.args.self.now.pass) (places c.open.new.pass) other.seat
    (c.open.ensures.all other.seat.number seated.holds) seated)

pub returns-clause-opened : goal.returns-clause-opened
returns-clause-opened g c =
    let s = c.args.self.now in
    opened_more g.Q.Records.first s.pass c.open.new.pass c.open.ensures.sees.begins c.requires.orderly c.new.result.number
    (subst (λ n. IsNew g.Q.Records.first n s.pass c.open.new.pass) (sym c.new.ensures.number) c.in_ok-number.ensures.new)

pub returns-clause-fresh : goal.returns-clause-fresh
returns-clause-fresh g c =
    let s = c.args.self.now in
    opened_fresh g.Q.Records.first s.pass c.open.new.pass c.open.ensures.sees.begins c.requires.orderly c.new.result.number
    (subst (λ n. IsNew g.Q.Records.first n s.pass c.open.new.pass) (sym c.new.ensures.number) c.in_ok-number.ensures.new)

pub returns-in_err-number-clause-none : goal.returns-in_err-number-clause-none
returns-in_err-number-clause-none g c = let same = opened_waiting g.Q.Records.first c.args.self.now.pass c.open.new.pass c.open.ensures.sees.begins c.requires.orderly c.in_err-number.ensures.none in search rules

pub returns-in_err-number-clause-others : goal.returns-in_err-number-clause-others
returns-in_err-number-clause-others g c = λ other d says.
    let sees = c.open.ensures.sees in
    says_later g.Q.Records g.S.Settles g.met.S.Settles.stays_kept c.args.self.now _ other d says sees.begins sees.orderly.0 (le_refl _) (g.met.S.Settles.goes_itself _)
    (λ seated. seat_alone g.Q.Records.first (history c.args.self.now.pass) (history c.open.new.pass) sees.begins sees.orderly.0 (places c.args.self.now.pass) (places c.open.new.pass) other.seat
    (c.open.ensures.all other.seat.number seated.holds) seated)

pub returns-in_err-number-clause-ready : goal.returns-in_err-number-clause-ready
returns-in_err-number-clause-ready g c = ready_by g.Q.Records g.S.Settles g.met.S.Settles.stays_kept c.args.self.now _ c.open.ensures.sees refl refl (λ is. (is, refl)) c.requires

pub returns-in_err-number-clause-goes_on : goal.returns-in_err-number-clause-goes_on
returns-in_err-number-clause-goes_on g c = goes_by g.Q.Records g.S.Settles g.met.S.Settles.stays_kept g.met.S.Settles.goes_itself c.args.self.now _ c.open.ensures.sees refl refl refl
