use Rattle.std.proofs.Common.{◌≡◌, true, rules, ◌∙◌, refl, sym, subst}
use Rattle.std.proofs.Math.Nat.{le_refl}
use Rattle.ifdb_turn.specs.Passes.{history, places}
use Rattle.ifdb_session.specs.Talk.{IsLeftSo}
use Rattle.ifdb_session.proofs.Apart.{seat_alone}
use Rattle.ifdb_desk.specs.Laws.{goes_itself}
use Rattle.ifdb_desk.proofs.Passing.{opened_same}
use Rattle.ifdb_desk.proofs.Saying.{goes_by, ready_by, says_later, over_left, over_by_line}
use Rattle.ifdb_desk.proofs.desk.DeskService.leave.Goals as goal

pub leave-requires : goal.leave-requires
leave-requires g c =
    let s = c.args.self.now in
    let says = c.requires.says.1 in
    let opened : c.args.place.is_open ≡ true = search rules in
    record { pass = c.requires.ready.belongs; seated = subst (IsLeftSo g.Q.Records.first (history s.pass) (places s.pass) c.args.place.seat) (sym says.same ∙ opened) says.left }

pub returns-clause-ready : goal.returns-clause-ready
returns-clause-ready g c = ready_by g.Q.Records g.S.Settles g.met.S.Settles.stays_kept c.args.self.now _ c.leave.ensures.sees refl refl (λ is. (is, refl)) c.requires.ready

pub returns-clause-goes_on : goal.returns-clause-goes_on
returns-clause-goes_on g c = goes_by g.Q.Records g.S.Settles g.met.S.Settles.stays_kept g.met.S.Settles.goes_itself c.args.self.now _ c.leave.ensures.sees refl refl refl

pub returns-clause-over : goal.returns-clause-over
returns-clause-over g c = λ d says.
    let e = c.leave.ensures in
    over_left g.Q.Records g.S.Settles g.met.S.Settles.stays_kept c.args.self.now (record c.args.self.now { pass = c.leave.new.pass }) c.args.place d says (search rules) refl e.sees.orderly.0 e.over e.left e.lines e.texts e.behind

pub returns-clause-others : goal.returns-clause-others
returns-clause-others g c = λ other d apart says.
    let sees = c.leave.ensures.sees in
    says_later g.Q.Records g.S.Settles g.met.S.Settles.stays_kept c.args.self.now _ other d says sees.begins sees.orderly.0 (le_refl _) (g.met.S.Settles.goes_itself _)
    (λ seated. seat_alone g.Q.Records.first (history c.args.self.now.pass) (history c.leave.new.pass) sees.begins sees.orderly.0 (places c.args.self.now.pass) (places c.leave.new.pass) other.seat
    (c.leave.ensures.others other.seat.number apart seated.holds) seated)

pub returns-then-not-is_open-clause-goes_on : goal.returns-then-not-is_open-clause-goes_on
returns-then-not-is_open-clause-goes_on g c = goes_itself g.Q.Records g.S.Settles g.met.S.Settles.goes_itself c.args.self.now

pub returns-then-not-is_open-clause-over : goal.returns-then-not-is_open-clause-over
returns-then-not-is_open-clause-over g c = λ d says.
    over_by_line g.Q.Records g.S.Settles g.met.S.Settles.stays_kept c.args.self.now c.args.place d c.requires.ready.orderly.0 says (search rules)

pub returns-clause-opened : goal.returns-clause-opened
returns-clause-opened g c =
    let s = c.args.self.now in
    let says = c.requires.says.1 in
    let opened : c.args.place.is_open ≡ true = search rules in
    let seated = subst (IsLeftSo g.Q.Records.first (history s.pass) (places s.pass) c.args.place.seat) (sym says.same ∙ opened) says.left in
    opened_same g.Q.Records.first s.pass c.leave.new.pass c.leave.ensures.sees.begins c.requires.ready.orderly c.args.place.seat.number c.leave.ensures.adds seated.holds
