use Rattle.std.proofs.Common.{rules, inl, refl, sym, subst}
use Rattle.ifdb_turn.specs.Passes.{history}
use Rattle.ifdb_turn.specs.Turns.{pass_of}
use Rattle.ifdb_session.specs.declared.shared.SharedRoom.{SharedRoom}
use Rattle.ifdb_session.specs.Standing.{StandsForHistory}
use Rattle.ifdb_session.proofs.MayAdd.{may_open}
use Rattle.ifdb_session.proofs.Turned.{ended_sees, ended_new, ended_alone, bare_sees, bare_alone}
use Rattle.ifdb_session.proofs.turns.open.Goals as goal

pub done_opened-requires-clause-entry : goal.done_opened-requires-clause-entry
done_opened-requires-clause-entry g c =
    let e = c.enter-turn.ensures in
    let log = history (pass_of c.enter-turn.result) in
    let stands = subst (λ (s : SharedRoom _). StandsForHistory g.Q.Records s log) (sym c.object.ensures.value) e.stands in
    let m = may_open g.Q.Records c.object.result.now c.open.new.self log stands (search rules) (search rules) c.open.ensures.recorded in
    (refl, (m.0, (m.1, inl refl)))

pub returns-clause-sees : goal.returns-clause-sees
returns-clause-sees g c =
    let e = c.enter-turn.ensures in
    let x = ended_sees g.Q.Records.first c.args.hall.now c.args.pass.now _ _ _ c.done_opened.ensures e.turnstile e.begins e.places e.shares in search rules

pub returns-clause-new : goal.returns-clause-new
returns-clause-new g c =
    let e = c.enter-turn.ensures in
    let log = history (pass_of c.enter-turn.result) in
    let stands = subst (λ (s : SharedRoom _). StandsForHistory g.Q.Records s log) (sym c.object.ensures.value) e.stands in
    let x = ended_new g.Q.Records.first c.args.hall.now c.args.pass.now _ _ _ c.done_opened.ensures e.turnstile e.begins e.places e.shares c.object.result.now.room c.in-Ok.n e.orderly.0 stands.room (search rules) refl in search rules

pub returns-in_default-clause-sees : goal.returns-in_default-clause-sees
returns-in_default-clause-sees g c =
    let e = c.enter-turn.ensures in
    let x = bare_sees g.Q.Records.first c.args.hall.now c.args.pass.now _ _ c.done_bare.ensures e.turnstile e.begins e.shares in search rules

pub returns-clause-all : goal.returns-clause-all
returns-clause-all g c = λ m holds.
    let e = c.enter-turn.ensures in
    let x = ended_alone g.Q.Records.first c.args.hall.now c.args.pass.now _ _ _ c.done_opened.ensures e.turnstile e.begins e.places e.shares e.orderly.0 e.own m tt holds in search rules

pub returns-in_default-clause-all : goal.returns-in_default-clause-all
returns-in_default-clause-all g c = λ m holds.
    let e = c.enter-turn.ensures in
    let x = bare_alone g.Q.Records.first c.args.hall.now c.args.pass.now _ _ c.done_bare.ensures e.turnstile e.begins e.shares e.orderly.0 e.own e.places m holds in search rules
