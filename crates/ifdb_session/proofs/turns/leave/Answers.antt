use Rattle.std.proofs.Common.{rules, ◌<◌, inr, refl, sym, subst}
use Rattle.ifdb_turn.specs.Passes.{history, places}
use Rattle.ifdb_turn.specs.Places.{times}
use Rattle.ifdb_turn.specs.Turns.{pass_of}
use Rattle.ifdb_history.specs.History.{root_in}
use Rattle.ifdb_session.specs.declared.shared.SharedRoom.{SharedRoom}
use Rattle.ifdb_session.specs.Standing.{StandsForHistory}
use Rattle.ifdb_session.proofs.MayAdd.{seat_found, may_be_back, may_leave}
use Rattle.ifdb_session.proofs.Turned.{ended_alone, ended_sees, ended_left_adds, ended_left_sourced, ended_left_lines, ended_left_texts, ended_left_over, ended_left_leaves, left_behind}
use Rattle.ifdb_session.proofs.turns.leave.Goals as goal

pub leave-requires : goal.leave-requires
leave-requires g c =
    let e = c.enter-turn.ensures in
    let log = history (pass_of c.enter-turn.result) in
    let stands = subst (λ (s : SharedRoom _). StandsForHistory g.Q.Records s log) (sym c.object.ensures.value) e.stands in
    let found = seat_found g.Q.Records.first (history c.args.pass.now) log (places c.args.pass.now) c.args.seat c.requires.seated e.begins e.orderly.0 e.own in
    may_be_back g.Q.Records log (places c.args.pass.now) c.args.seat found.0 c.object.result.now c.object.result.now stands

pub done_left-requires-clause-entry : goal.done_left-requires-clause-entry
done_left-requires-clause-entry g c =
    let e = c.enter-turn.ensures in
    let log = history (pass_of c.enter-turn.result) in
    let stands = subst (λ (s : SharedRoom _). StandsForHistory g.Q.Records s log) (sym c.object.ensures.value) e.stands in
    let found = seat_found g.Q.Records.first (history c.args.pass.now) log (places c.args.pass.now) c.args.seat c.requires.seated e.begins e.orderly.0 e.own in
    let m = may_leave g.Q.Records log (places c.args.pass.now) c.args.seat found.0 c.object.result.now c.leave.new.self stands c.leave.ensures.left c.leave.ensures.counted c.leave.ensures.recorded in
    (refl, (m.0, (m.1, inr (subst (λ l. 0 < times (root_in log c.args.seat.number) l) (sym e.places) m.2))))

pub returns-clause-sees : goal.returns-clause-sees
returns-clause-sees g c =
    let e = c.enter-turn.ensures in
    let x = ended_sees g.Q.Records.first c.args.hall.now c.args.pass.now _ _ _ c.done_left.ensures e.turnstile e.begins e.places e.shares in search rules

pub returns-clause-adds : goal.returns-clause-adds
returns-clause-adds g c =
    let e = c.enter-turn.ensures in
    let x = ended_left_adds g.Q.Records.first c.args.hall.now c.args.pass.now _ _ _ c.done_left.ensures e.turnstile e.begins e.places e.shares c.args.seat c.requires.seated e.orderly.0 e.own refl in search rules

pub returns-clause-over : goal.returns-clause-over
returns-clause-over g c =
    let e = c.enter-turn.ensures in
    let x = ended_left_over g.Q.Records.first c.args.hall.now c.args.pass.now _ _ _ c.done_left.ensures e.turnstile e.begins e.places e.shares c.args.seat c.requires.seated e.orderly.0 e.own refl in search rules

pub returns-clause-lines : goal.returns-clause-lines
returns-clause-lines g c =
    let e = c.enter-turn.ensures in
    let x = ended_left_lines g.Q.Records.first c.args.hall.now c.args.pass.now _ _ _ c.done_left.ensures e.turnstile e.begins e.places e.shares c.args.seat c.requires.seated e.orderly.0 e.own refl in search rules

pub returns-clause-texts : goal.returns-clause-texts
returns-clause-texts g c =
    let e = c.enter-turn.ensures in
    let x = ended_left_texts g.Q.Records.first c.args.hall.now c.args.pass.now _ _ _ c.done_left.ensures e.turnstile e.begins e.places e.shares c.args.seat c.requires.seated e.orderly.0 e.own refl in search rules

pub returns-clause-left : goal.returns-clause-left
returns-clause-left g c =
    let e = c.enter-turn.ensures in
    let x = ended_left_leaves g.Q.Records.first c.args.hall.now c.args.pass.now _ _ _ c.done_left.ensures e.turnstile e.begins e.places e.shares c.args.seat c.requires.seated e.orderly.0 e.own refl in search rules

pub returns-clause-sourced : goal.returns-clause-sourced
returns-clause-sourced g c =
    let e = c.enter-turn.ensures in
    let x = ended_left_sourced g.Q.Records.first c.args.hall.now c.args.pass.now _ _ _ c.done_left.ensures e.turnstile e.begins e.places e.shares c.args.seat c.requires.seated e.orderly.0 e.own refl in search rules

pub returns-clause-others : goal.returns-clause-others
returns-clause-others g c = λ m other holds.
    let e = c.enter-turn.ensures in
    let x = ended_alone g.Q.Records.first c.args.hall.now c.args.pass.now _ _ _ c.done_left.ensures e.turnstile e.begins e.places e.shares e.orderly.0 e.own m (λ same. other (sym same)) holds in search rules

pub returns-clause-behind : goal.returns-clause-behind
returns-clause-behind g c =
    let e = c.enter-turn.ensures in
    let x = left_behind g.Q.Records.first c.args.hall.now c.args.pass.now _ _ _ c.done_left.ensures e.turnstile e.begins e.places e.shares c.args.seat c.requires.seated e.orderly.0 e.own refl in search rules
