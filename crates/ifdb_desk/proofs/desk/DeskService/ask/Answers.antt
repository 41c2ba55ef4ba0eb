use Rattle.std.proofs.Common.{◌∙◌, refl, sym, ap, subst}
use Rattle.ifdb_turn.specs.Passes.{history, places}
use Rattle.ifdb_session.specs.Acknowledged.{IsSourced}
use Rattle.ifdb_session.specs.Behind.{AnswersBehind}
use Rattle.ifdb_session.specs.Passes.{Asks, LeavesOthers, Sees}
use Rattle.ifdb_session.specs.Talk.{IsLeftSo}
use Rattle.ifdb_session.proofs.Apart.{seat_alone}
use Rattle.ifdb_desk.specs.declared.desk.Desk.{Desk}
use Rattle.ifdb_desk.specs.Opened.{opened_in}
use Rattle.ifdb_desk.proofs.Passing.{opened_same}
use Rattle.ifdb_desk.proofs.Saying.{goes_by, ready_by, says_asked, says_later}
use Rattle.ifdb_desk.proofs.desk.DeskService.ask.Goals as goal

pub ask-is_open-requires : goal.ask-is_open-requires
ask-is_open-requires g c =
    let s = c.args.self.now in
    let says = c.requires.says in
    record {
      pass = c.requires.ready.belongs;
      orderly = c.requires.ready.orderly;
      seated = subst (IsLeftSo g.Q.Records.first (history s.pass) (places s.pass) c.args.place.now.seat) says.2 says.1.left;
    }

pub returns-clause-ready : goal.returns-clause-ready
returns-clause-ready g c =
    let s = c.args.self.now in
    let same = c.rest_on.ensures.same in
    let sees = subst (λ (z : Desk _ _ _). Sees g.Q.Records.first s.hall.now s.pass z.pass) (sym same) c.ask-is_open.ensures.asks.sees in
    ready_by g.Q.Records g.S.Settles g.met.S.Settles.stays_kept s c.rest_on.new.self sees (ap (λ (z : Desk _ _ _). z.hall) same) (ap (λ (z : Desk _ _ _). z.keeper) same) c.rest_on.ensures.settled c.requires.ready

pub returns-clause-goes_on : goal.returns-clause-goes_on
returns-clause-goes_on g c =
    let s = c.args.self.now in
    let same = c.rest_on.ensures.same in
    let sees = subst (λ (z : Desk _ _ _). Sees g.Q.Records.first s.hall.now s.pass z.pass) (sym same) c.ask-is_open.ensures.asks.sees in
    goes_by g.Q.Records g.S.Settles g.met.S.Settles.stays_kept g.met.S.Settles.goes_itself s c.rest_on.new.self sees (ap (λ (z : Desk _ _ _). z.hall) same) (ap (λ (z : Desk _ _ _). z.keeper) same)
    (ap (λ (z : Desk _ _ _). z.limit) same)

pub returns-clause-told : goal.returns-clause-told
returns-clause-told g c = λ d opened says.
    let s = c.args.self.now in
    let same = c.rest_on.ensures.same in
    let asks = subst (λ (z : Desk _ _ _). Asks g.Q.Records.first s.hall.now c.args.line.now z.out.text s.pass z.pass c.args.place.now.seat c.ask-is_open.new.seat c.ask-is_open.result.is_open) (sym same) c.ask-is_open.ensures.asks in
    let sourced = subst (λ (z : Desk _ _ _). IsSourced g.Q.Records.first g.Q.Records.count_of c.args.place.now.seat.number (history s.pass) (history z.pass) c.ask-is_open.result.count) (sym same) c.ask-is_open.ensures.sourced in
    let behind = subst (λ (z : Desk _ _ _). AnswersBehind g.Q.Records.first (history s.pass) (history z.pass) c.args.place.now.seat) (sym same) c.ask-is_open.ensures.behind in
    says_asked g.Q.Records g.S.Settles g.met.S.Settles.stays_kept s c.rest_on.new.self c.args.place.now _ c.args.line.now c.ask-is_open.result.is_open c.ask-is_open.result.count asks sourced behind refl
    (ap (λ (z : Desk _ _ _). z.keeper) same) c.rest_on.ensures.more c.rest_on.ensures.count d says

pub returns-clause-others : goal.returns-clause-others
returns-clause-others g c = λ other d apart says.
    let s = c.args.self.now in
    let same = c.rest_on.ensures.same in
    let t = c.rest_on.new.self in
    let sees = subst (λ (z : Desk _ _ _). Sees g.Q.Records.first s.hall.now s.pass z.pass) (sym same) c.ask-is_open.ensures.asks.sees in
    let others = subst (λ (z : Desk _ _ _). LeavesOthers g.Q.Records.first c.args.place.now.seat.number s.pass z.pass) (sym same) c.ask-is_open.ensures.others in
    says_later g.Q.Records g.S.Settles g.met.S.Settles.stays_kept s t other d says sees.begins sees.orderly.0 c.rest_on.ensures.more
    (subst (g.S.Settles.goes_on s.keeper) (sym (ap (λ (z : Desk _ _ _). z.keeper) same)) (g.met.S.Settles.goes_itself s.keeper))
    (λ seated. seat_alone g.Q.Records.first (history s.pass) (history t.pass) sees.begins sees.orderly.0 (places s.pass) (places t.pass) other.seat (others other.seat.number apart seated.holds) seated)

pub returns-clause-opened : goal.returns-clause-opened
returns-clause-opened g c =
    let s = c.args.self.now in
    let says = c.requires.says in
    let seated = subst (IsLeftSo g.Q.Records.first (history s.pass) (places s.pass) c.args.place.now.seat) says.2 says.1.left in
    ap (λ (z : Desk _ _ _). opened_in (history z.pass) (places z.pass)) c.rest_on.ensures.same
    ∙ opened_same g.Q.Records.first s.pass c.ask-is_open.new.pass c.ask-is_open.ensures.asks.sees.begins c.requires.ready.orderly c.args.place.now.seat.number c.ask-is_open.ensures.asks.adds seated.holds
