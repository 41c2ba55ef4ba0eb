use Rattle.std.proofs.Common.{rules, ◌∙◌, sym, subst}
use Rattle.ifdb_turn.specs.Passes.{history}
use Rattle.ifdb_session.specs.Acknowledged.{sources_of, Acknowledges, KnowsKept}
use Rattle.ifdb_session.specs.Passes.{Adds}
use Rattle.ifdb_session.proofs.Passes.{sees_on, adds_on}
use Rattle.ifdb_session.proofs.Serving.{served_over, served_left}
use Rattle.ifdb_session.proofs.link.serve_link.Goals as goal

pub returns-then-not-talked-clause-sees : goal.returns-then-not-talked-clause-sees
returns-then-not-talked-clause-sees g c = sees_on g.Q.Records.first c.args.hall.now _ _ _ c.open.ensures.sees c.talk-talked.ensures.sees

pub returns-then-not-talked-clause-served : goal.returns-then-not-talked-clause-served
returns-then-not-talked-clause-served g c = λ _.
    let t = c.talk-talked.ensures in
    let n = c.in-Ok-open.n in
    let adds = subst (λ m. Adds m c.open.new.pass c.talk-talked.new.pass) c.new-seat.ensures.number t.adds in
    served_over g.Q.Records.first (KnowsKept g.Q.Records g.S.Settles c.talk-talked.new.keeper) c.args.hall.now n c.args.limit (record { left = g.K.Source.left c.args.link.now; left_now = g.K.Source.left c.talk-talked.new.link; written = g.K.Sink.written c.args.link.now; written_now = g.K.Sink.written c.talk-talked.new.link })
    c.args.pass.now c.open.new.pass (search rules) c.talk-talked.new.pass c.talk-talked.new.seat c.talk-talked.result (t.number ∙ c.new-seat.ensures.number) t.sees adds (search rules) (search rules)
    (subst (λ m. Acknowledges c.talk-talked.result.ending (KnowsKept g.Q.Records g.S.Settles c.talk-talked.new.keeper) (sources_of g.Q.Records.first m (history c.talk-talked.new.pass))) (sym t.number) t.acknowledged)

pub returns-clause-sees : goal.returns-clause-sees
returns-clause-sees g c =
    let first = sees_on g.Q.Records.first c.args.hall.now _ _ _ c.open.ensures.sees c.talk-talked.ensures.sees in
    sees_on g.Q.Records.first c.args.hall.now _ _ _ first c.leave.ensures.sees

pub returns-clause-served : goal.returns-clause-served
returns-clause-served g c = λ _.
    let t = c.talk-talked.ensures in
    let l = c.leave.ensures in
    let n = c.in-Ok-open.n in
    let here = t.number ∙ c.new-seat.ensures.number in
    let first = subst (λ m. Adds m c.open.new.pass c.talk-talked.new.pass) c.new-seat.ensures.number t.adds in
    let more = subst (λ m. Adds m c.talk-talked.new.pass c.leave.new.pass) here l.adds in
    served_left g.Q.Records.first (KnowsKept g.Q.Records g.S.Settles c.talk-talked.new.keeper) c.args.hall.now n c.args.limit (record { left = g.K.Source.left c.args.link.now; left_now = g.K.Source.left c.talk-talked.new.link; written = g.K.Sink.written c.args.link.now; written_now = g.K.Sink.written c.talk-talked.new.link })
    c.args.pass.now c.open.new.pass (search rules) c.talk-talked.new.pass c.leave.new.pass c.talk-talked.new.seat c.talk-talked.result here (search rules) (search rules)
    (sees_on g.Q.Records.first c.args.hall.now _ _ _ t.sees l.sees) (adds_on n _ _ _ first more l.sees.begins) l.over l.left l.lines l.texts
    (subst (Acknowledges c.talk-talked.result.ending (KnowsKept g.Q.Records g.S.Settles c.talk-talked.new.keeper)) (sym l.sourced) (subst (λ m. Acknowledges c.talk-talked.result.ending (KnowsKept g.Q.Records g.S.Settles c.talk-talked.new.keeper) (sources_of g.Q.Records.first m (history c.talk-talked.new.pass))) (sym t.number) t.acknowledged))
