use Rattle.std.proofs.Common.{rules, ◌<◌, ◌∙◌, true, eq-eqb, inr, refl, sym, subst}
use Rattle.ifdb_turn.specs.Passes.{history, places}
use Rattle.ifdb_turn.specs.Places.{times}
use Rattle.ifdb_turn.specs.Turns.{pass_of}
use Rattle.ifdb_db.specs.Looks.{IsLookOf}
use Rattle.ifdb_history.specs.History.{root_in}
use Rattle.ifdb_session.specs.Seats.{Notes}
use Rattle.ifdb_session.specs.Standing.{StandsForHistory}
use Rattle.ifdb_session.specs.Turns.{IsAsked}
use Rattle.ifdb_session.specs.declared.shared.Asked.TheVariants as asked
use Rattle.ifdb_session.specs.declared.shared.SharedRoom.{SharedRoom}
use Rattle.ifdb_session.proofs.Counting.{lent_if_open}
use Rattle.ifdb_session.proofs.MayAdd.{seat_found, may_be_back, may_ask, may_look, may_refuse}
use Rattle.ifdb_session.proofs.Turned.{ended_alone, asked_behind, alone_behind, bare_behind, ended_asked, ended_looked, ended_refused, ended_sourced, bare_alone, bare_asked, bare_sourced}
use Rattle.ifdb_session.proofs.turns.ask_in_turn.Goals as goal

pub ask-requires : goal.ask-requires
ask-requires g c =
    let e = c.enter-turn.ensures in
    let s = c.args.seat.now in
    let log = history (pass_of c.enter-turn.result) in
    let same = c.object-2.ensures.value ∙ c.in-Err.ensures.err ∙ c.object.ensures.value in
    let stands = subst (λ (z : SharedRoom _). StandsForHistory g.Q.Records z log) (sym same) e.stands in
    let found = seat_found g.Q.Records.first (history c.args.pass.now) log (places c.args.pass.now) s c.requires.seated e.begins e.orderly.0 e.own in
    may_be_back g.Q.Records log (places c.args.pass.now) s found.0 c.object-2.result.now c.object-2.result.now stands

pub done_asked-requires-clause-entry : goal.done_asked-requires-clause-entry
done_asked-requires-clause-entry g c =
    let e = c.enter-turn.ensures in
    let s = c.args.seat.now in
    let log = history (pass_of c.enter-turn.result) in
    let same = c.object-2.ensures.value ∙ c.in-Err.ensures.err ∙ c.object.ensures.value in
    let stands = subst (λ (z : SharedRoom _). StandsForHistory g.Q.Records z log) (sym same) e.stands in
    let found = seat_found g.Q.Records.first (history c.args.pass.now) log (places c.args.pass.now) s c.requires.seated e.begins e.orderly.0 e.own in
    let line = c.in-Err.ensures.back ∙ c.new-read.ensures in
    let a = subst (λ l. IsAsked g.Q.Records s.number l s.lent c.ask.new.lent c.object-2.result.now c.ask.new.self c.ask.new.out.text (asked.Done c.in-Done.is_open c.in-Done.count)) line c.in-Done.ensures in
    let m = may_ask g.Q.Records log (places c.args.pass.now) s found.0 c.object-2.result.now c.ask.new.self stands c.args.line.now a.0.0 a.1 a.3 in
    (refl, (m.0, (m.1, inr (subst (λ l. 0 < times (root_in log s.number) l) (sym e.places) m.2))))

pub done_refused-requires-clause-entry : goal.done_refused-requires-clause-entry
done_refused-requires-clause-entry g c =
    let e = c.enter-turn.ensures in
    let s = c.args.seat.now in
    let log = history (pass_of c.enter-turn.result) in
    let same = c.object-2.ensures.value ∙ c.in-Err.ensures.err ∙ c.object.ensures.value in
    let stands = subst (λ (z : SharedRoom _). StandsForHistory g.Q.Records z log) (sym same) e.stands in
    let found = seat_found g.Q.Records.first (history c.args.pass.now) log (places c.args.pass.now) s c.requires.seated e.begins e.orderly.0 e.own in
    let line = c.in-Err.ensures.back ∙ c.new-read.ensures in
    let a = subst (λ l. IsAsked g.Q.Records s.number l s.lent c.ask.new.lent c.object-2.result.now c.ask.new.self c.ask.new.out.text (asked.Refused c.in-Refused.count)) line c.in-Refused.ensures in
    let m = may_refuse g.Q.Records log (places c.args.pass.now) s found.0 c.object-2.result.now c.ask.new.self stands c.args.line.now a.0 a.5 a.2 in
    (refl, (m.0, (m.1, inr (subst (λ l. 0 < times (root_in log s.number) l) (sym e.places) m.2))))

pub returns-in-Done-clause-asks : goal.returns-in-Done-clause-asks
returns-in-Done-clause-asks g c =
    let e = c.enter-turn.ensures in
    let s = c.args.seat.now in
    let log = history (pass_of c.enter-turn.result) in
    let same = c.object-2.ensures.value ∙ c.in-Err.ensures.err ∙ c.object.ensures.value in
    let stands = subst (λ (z : SharedRoom _). StandsForHistory g.Q.Records z log) (sym same) e.stands in
    let found = seat_found g.Q.Records.first (history c.args.pass.now) log (places c.args.pass.now) s c.requires.seated e.begins e.orderly.0 e.own in
    let line = c.in-Err.ensures.back ∙ c.new-read.ensures in
    let a = subst (λ l. IsAsked g.Q.Records s.number l s.lent c.ask.new.lent c.object-2.result.now c.ask.new.self c.ask.new.out.text (asked.Done c.in-Done.is_open c.in-Done.count)) line c.in-Done.ensures in
    let x = ended_asked g.Q.Records.first c.args.hall.now c.args.pass.now _ _ _ c.done_asked.ensures e.turnstile e.begins e.places e.shares s c.requires.seated e.orderly.0 e.own
    c.args.line.now c.ask.new.out.text c.object-2.result.now.room c.ask.new.self.room c.in-Done.is_open c.ask.new.lent
    (record { alloc = s.alloc; number = s.number; lent = c.ask.new.lent; work = c.new-seat.result })
    refl stands.room a.0 (lent_if_open c.ask.new.self.room s.number c.in-Done.is_open c.ask.new.lent a.2) refl refl c.new-seat.ensures in search rules

pub returns-in-Refused-clause-asks : goal.returns-in-Refused-clause-asks
returns-in-Refused-clause-asks g c =
    let e = c.enter-turn.ensures in
    let s = c.args.seat.now in
    let log = history (pass_of c.enter-turn.result) in
    let same = c.object-2.ensures.value ∙ c.in-Err.ensures.err ∙ c.object.ensures.value in
    let stands = subst (λ (z : SharedRoom _). StandsForHistory g.Q.Records z log) (sym same) e.stands in
    let found = seat_found g.Q.Records.first (history c.args.pass.now) log (places c.args.pass.now) s c.requires.seated e.begins e.orderly.0 e.own in
    let line = c.in-Err.ensures.back ∙ c.new-read.ensures in
    let a = subst (λ l. IsAsked g.Q.Records s.number l s.lent c.ask.new.lent c.object-2.result.now c.ask.new.self c.ask.new.out.text (asked.Refused c.in-Refused.count)) line c.in-Refused.ensures in
    let x = ended_refused g.Q.Records.first c.args.hall.now c.args.pass.now _ _ _ c.done_refused.ensures e.turnstile e.begins e.places e.shares s c.requires.seated e.orderly.0 e.own
    c.args.line.now c.ask.new.out.text (record { alloc = s.alloc; number = s.number; lent = c.ask.new.lent; work = s.work })
    refl a.1 a.3 refl a.4 refl in search rules

pub returns-in-Kept-clause-asks : goal.returns-in-Kept-clause-asks
returns-in-Kept-clause-asks g c =
    let e = c.enter-turn.ensures in
    let s = c.args.seat.now in
    let log = history (pass_of c.enter-turn.result) in
    let same = c.object-2.ensures.value ∙ c.in-Err.ensures.err ∙ c.object.ensures.value in
    let stands = subst (λ (z : SharedRoom _). StandsForHistory g.Q.Records z log) (sym same) e.stands in
    let found = seat_found g.Q.Records.first (history c.args.pass.now) log (places c.args.pass.now) s c.requires.seated e.begins e.orderly.0 e.own in
    let k = c.in-Kept.ensures in
    let noted : Notes c.args.line.now s (record { alloc = s.alloc; number = s.number; lent = c.ask.new.lent; work = c.and-seat.result }) c.ask.new.out.text = record {
      before = k.3.0;
      now = k.3.0;
      is_refused = true;
      was = k.3.1;
      is = k.2 ∙ k.3.1;
      told = (refl, k.1);
      number = refl;
      work = c.and-seat.ensures;
    } in
    let x = bare_asked g.Q.Records.first c.args.hall.now c.args.pass.now _ _ c.done_bare.ensures e.turnstile e.begins e.shares s
    (record { alloc = s.alloc; number = s.number; lent = c.ask.new.lent; work = c.and-seat.result })
    c.args.line.now c.ask.new.out.text c.requires.seated e.orderly.0 e.own e.places noted in search rules

pub done_looked-requires-clause-entry : goal.done_looked-requires-clause-entry
done_looked-requires-clause-entry g c =
    let e = c.enter-turn.ensures in
    let s = c.args.seat.now in
    let log = history (pass_of c.enter-turn.result) in
    let stands = subst (λ (z : SharedRoom _). StandsForHistory g.Q.Records z log) (sym c.object.ensures.value) e.stands in
    let found = seat_found g.Q.Records.first (history c.args.pass.now) log (places c.args.pass.now) s c.requires.seated e.begins e.orderly.0 e.own in
    let line = c.new-read.ensures in
    let l = c.in-Ok.ensures in
    let look = subst (λ z. IsLookOf c.object.result.now.room s.number z c.in-Ok.look) line l.look in
    let m = may_look g.Q.Records log (places c.args.pass.now) s found.0 c.object.result.now c.look.new.self stands c.args.line.now c.in-Ok.look look l.room l.recorded l.counted in
    (refl, (m.0, (m.1, inr (subst (λ l. 0 < times (root_in log s.number) l) (sym e.places) m.2))))

pub returns-in-Ok-clause-asks : goal.returns-in-Ok-clause-asks
returns-in-Ok-clause-asks g c =
    let e = c.enter-turn.ensures in
    let s = c.args.seat.now in
    let log = history (pass_of c.enter-turn.result) in
    let stands = subst (λ (z : SharedRoom _). StandsForHistory g.Q.Records z log) (sym c.object.ensures.value) e.stands in
    let l = c.in-Ok.ensures in
    let look = subst (λ z. IsLookOf c.object.result.now.room s.number z c.in-Ok.look) (c.new-read.ensures) l.look in
    let x = ended_looked g.Q.Records.first c.args.hall.now c.args.pass.now _ _ _ c.done_looked.ensures e.turnstile e.begins e.places e.shares s c.requires.seated e.orderly.0 e.own
    c.args.line.now c.show.new.out.text c.object.result.now.room c.in-Ok.look (record { alloc = s.alloc; number = s.number; lent = s.lent; work = s.work })
    refl stands.room look c.show.ensures l.here refl l.here refl in search rules

pub returns-in-Done-clause-sourced : goal.returns-in-Done-clause-sourced
returns-in-Done-clause-sourced g c =
    let e = c.enter-turn.ensures in
    let s = c.args.seat.now in
    let log = history (pass_of c.enter-turn.result) in
    let same = c.object-2.ensures.value ∙ c.in-Err.ensures.err ∙ c.object.ensures.value in
    let stands = subst (λ (z : SharedRoom _). StandsForHistory g.Q.Records z log) (sym same) e.stands in
    let found = seat_found g.Q.Records.first (history c.args.pass.now) log (places c.args.pass.now) s c.requires.seated e.begins e.orderly.0 e.own in
    let line = c.in-Err.ensures.back ∙ c.new-read.ensures in
    let a = subst (λ l. IsAsked g.Q.Records s.number l s.lent c.ask.new.lent c.object-2.result.now c.ask.new.self c.ask.new.out.text (asked.Done c.in-Done.is_open c.in-Done.count)) line c.in-Done.ensures in
    let m = may_ask g.Q.Records log (places c.args.pass.now) s found.0 c.object-2.result.now c.ask.new.self stands c.args.line.now a.0.0 a.1 a.3 in
    let x = ended_sourced g.Q.Records.first c.args.hall.now c.args.pass.now _ _ _ c.done_asked.ensures e.turnstile e.begins e.places e.shares s c.requires.seated e.orderly.0 e.own
    g.Q.Records.count_of c.in-Done.count (eq-eqb s.number s.number refl) (a.4 _ m.0.recorded) in search rules

pub returns-in-Refused-clause-sourced : goal.returns-in-Refused-clause-sourced
returns-in-Refused-clause-sourced g c =
    let e = c.enter-turn.ensures in
    let s = c.args.seat.now in
    let log = history (pass_of c.enter-turn.result) in
    let same = c.object-2.ensures.value ∙ c.in-Err.ensures.err ∙ c.object.ensures.value in
    let stands = subst (λ (z : SharedRoom _). StandsForHistory g.Q.Records z log) (sym same) e.stands in
    let found = seat_found g.Q.Records.first (history c.args.pass.now) log (places c.args.pass.now) s c.requires.seated e.begins e.orderly.0 e.own in
    let line = c.in-Err.ensures.back ∙ c.new-read.ensures in
    let a = subst (λ l. IsAsked g.Q.Records s.number l s.lent c.ask.new.lent c.object-2.result.now c.ask.new.self c.ask.new.out.text (asked.Refused c.in-Refused.count)) line c.in-Refused.ensures in
    let m = may_refuse g.Q.Records log (places c.args.pass.now) s found.0 c.object-2.result.now c.ask.new.self stands c.args.line.now a.0 a.5 a.2 in
    let x = ended_sourced g.Q.Records.first c.args.hall.now c.args.pass.now _ _ _ c.done_refused.ensures e.turnstile e.begins e.places e.shares s c.requires.seated e.orderly.0 e.own
    g.Q.Records.count_of c.in-Refused.count (eq-eqb s.number s.number refl) (a.6 _ m.0.recorded) in search rules

pub returns-in-Kept-clause-sourced : goal.returns-in-Kept-clause-sourced
returns-in-Kept-clause-sourced g c =
    let e = c.enter-turn.ensures in
    let x = bare_sourced g.Q.Records.first c.args.hall.now c.args.pass.now _ _ c.done_bare.ensures e.turnstile e.begins e.shares c.args.seat.now c.requires.seated e.orderly.0 e.own in search rules

pub returns-in-Ok-clause-sourced : goal.returns-in-Ok-clause-sourced
returns-in-Ok-clause-sourced g c =
    let e = c.enter-turn.ensures in
    let s = c.args.seat.now in
    let log = history (pass_of c.enter-turn.result) in
    let stands = subst (λ (z : SharedRoom _). StandsForHistory g.Q.Records z log) (sym c.object.ensures.value) e.stands in
    let found = seat_found g.Q.Records.first (history c.args.pass.now) log (places c.args.pass.now) s c.requires.seated e.begins e.orderly.0 e.own in
    let line = c.new-read.ensures in
    let l = c.in-Ok.ensures in
    let look = subst (λ z. IsLookOf c.object.result.now.room s.number z c.in-Ok.look) line l.look in
    let m = may_look g.Q.Records log (places c.args.pass.now) s found.0 c.object.result.now c.look.new.self stands c.args.line.now c.in-Ok.look look l.room l.recorded l.counted in
    let x = ended_sourced g.Q.Records.first c.args.hall.now c.args.pass.now _ _ _ c.done_looked.ensures e.turnstile e.begins e.places e.shares s c.requires.seated e.orderly.0 e.own
    g.Q.Records.count_of c.in-Ok.count (eq-eqb s.number s.number refl) (l.count _ m.0.recorded) in search rules

pub returns-in-Ok-clause-others : goal.returns-in-Ok-clause-others
returns-in-Ok-clause-others g c = λ m other holds.
    let e = c.enter-turn.ensures in
    let x = ended_alone g.Q.Records.first c.args.hall.now c.args.pass.now _ _ _ c.done_looked.ensures e.turnstile e.begins e.places e.shares e.orderly.0 e.own m (λ same. other (sym same)) holds in search rules

pub returns-in-Done-clause-others : goal.returns-in-Done-clause-others
returns-in-Done-clause-others g c = λ m other holds.
    let e = c.enter-turn.ensures in
    let x = ended_alone g.Q.Records.first c.args.hall.now c.args.pass.now _ _ _ c.done_asked.ensures e.turnstile e.begins e.places e.shares e.orderly.0 e.own m (λ same. other (sym same)) holds in search rules

pub returns-in-Refused-clause-others : goal.returns-in-Refused-clause-others
returns-in-Refused-clause-others g c = λ m other holds.
    let e = c.enter-turn.ensures in
    let x = ended_alone g.Q.Records.first c.args.hall.now c.args.pass.now _ _ _ c.done_refused.ensures e.turnstile e.begins e.places e.shares e.orderly.0 e.own m (λ same. other (sym same)) holds in search rules

pub returns-in-Kept-clause-others : goal.returns-in-Kept-clause-others
returns-in-Kept-clause-others g c = λ m other holds.
    let e = c.enter-turn.ensures in
    let x = bare_alone g.Q.Records.first c.args.hall.now c.args.pass.now _ _ c.done_bare.ensures e.turnstile e.begins e.shares e.orderly.0 e.own e.places m holds in search rules

pub returns-in-Done-clause-behind : goal.returns-in-Done-clause-behind
returns-in-Done-clause-behind g c =
    let e = c.enter-turn.ensures in
    let x = asked_behind g.Q.Records.first c.args.hall.now c.args.pass.now _ _ _ c.done_asked.ensures e.turnstile e.begins e.places e.shares c.args.seat.now c.requires.seated e.orderly.0 e.own c.args.line.now refl in search rules

pub returns-in-Ok-clause-behind : goal.returns-in-Ok-clause-behind
returns-in-Ok-clause-behind g c =
    let e = c.enter-turn.ensures in
    let x = alone_behind g.Q.Records.first c.args.hall.now c.args.pass.now _ _ _ c.done_looked.ensures e.turnstile e.begins e.places e.shares c.args.seat.now c.requires.seated e.orderly.0 e.own refl c.in-Ok.ensures.here in search rules

pub returns-in-Refused-clause-behind : goal.returns-in-Refused-clause-behind
returns-in-Refused-clause-behind g c =
    let e = c.enter-turn.ensures in
    let x = alone_behind g.Q.Records.first c.args.hall.now c.args.pass.now _ _ _ c.done_refused.ensures e.turnstile e.begins e.places e.shares c.args.seat.now c.requires.seated e.orderly.0 e.own refl c.in-Refused.ensures.3 in search rules

pub returns-in-Kept-clause-behind : goal.returns-in-Kept-clause-behind
returns-in-Kept-clause-behind g c =
    let e = c.enter-turn.ensures in
    let x = bare_behind g.Q.Records.first c.args.hall.now c.args.pass.now _ _ c.done_bare.ensures e.turnstile e.begins e.shares c.args.seat.now c.requires.seated e.orderly.0 e.own in search rules
