use Rattle.std.proofs.Common.{◌≡◌, ◌∙◌, true, sym, ap, subst}
use Rattle.ifdb_db.specs.Answer.{answered}
use Rattle.ifdb_db.specs.Client.{Client}
use Rattle.ifdb_db.specs.Kept.{AreHeld}
use Rattle.ifdb_db.specs.Noting.{IsNoted}
use Rattle.ifdb_db.specs.Reading.{read_line}
use Rattle.ifdb_db.specs.Room.{Hall, client_in, outcome_in}
use Rattle.ifdb_db.specs.RoomSteps.{IsAskedIn}
use Rattle.ifdb_db.proofs.Noting.{asked_noted}
use Rattle.ifdb_db.proofs.Returning.{asked_in, held_after, is_held, put_after, stands_in}
use Rattle.ifdb_db.proofs.room.Room.answer_open.Goals as goal

pub replace-session-requires : goal.replace-session-requires
replace-session-requires g c = subst (λ (z : Hall). (client_in z c.args.n).is_open ≡ true) (sym c.self.view_is) c.requires

pub ask-told-requires-clause-open : goal.ask-told-requires-clause-open
ask-told-requires-clause-open g c =
    let is_open = subst (λ (z : Hall). (client_in z c.args.n).is_open ≡ true) (sym c.self.view_is) c.requires in
    ap (λ (z : Client). z.is_open) c.replace-session.ensures.before ∙ is_open

pub ask-told-requires-clause-kept : goal.ask-told-requires-clause-kept
ask-told-requires-clause-kept g c =
    let h : Hall = record { desk = c.self.inside.db; clients = g.S.Sessions.clients c.self.inside.sessions } in
    let is_open = subst (λ (z : Hall). (client_in z c.args.n).is_open ≡ true) (sym c.self.view_is) c.requires in
    is_held h c.args.n is_open c.replace-session.result c.replace-session.ensures.before c.self.invariant

pub replace-requires : goal.replace-requires
replace-requires g c =
    let h : Hall = record { desk = c.self.inside.db; clients = g.S.Sessions.clients c.self.inside.sessions } in
    let is_open = subst (λ (z : Hall). (client_in z c.args.n).is_open ≡ true) (sym c.self.view_is) c.requires in
    stands_in h c.args.n is_open (g.S.Sessions.clients c.replace-session.new.self) c.new.result c.new.ensures c.replace-session.ensures.put

pub invariant_of-self : goal.invariant_of-self
invariant_of-self g c =
    let h : Hall = record { desk = c.self.inside.db; clients = g.S.Sessions.clients c.self.inside.sessions } in
    let is_open = subst (λ (z : Hall). (client_in z c.args.n).is_open ≡ true) (sym c.self.view_is) c.requires in
    let clients = put_after h c.args.n is_open (g.S.Sessions.clients c.replace-session.new.self) (g.S.Sessions.clients c.replace.new.self) c.new.result c.ask-told.new.session c.replace-session.ensures.put c.replace.ensures.put in
    subst (AreHeld c.ask-told.new.self) (sym clients)
    (held_after h c.args.n is_open c.ask-told.new.self (answered h.desk c.replace-session.result (read_line c.args.line)) c.replace-session.result c.ask-told.new.session c.ask-told.result
    c.ask-told.ensures.answered c.ask-told.ensures.kept c.self.invariant)

pub returns-clause-asked : goal.returns-clause-asked
returns-clause-asked g c =
    let h : Hall = record { desk = c.self.inside.db; clients = g.S.Sessions.clients c.self.inside.sessions } in
    let is_open = subst (λ (z : Hall). (client_in z c.args.n).is_open ≡ true) (sym c.self.view_is) c.requires in
    let clients = put_after h c.args.n is_open (g.S.Sessions.clients c.replace-session.new.self) (g.S.Sessions.clients c.replace.new.self) c.new.result c.ask-told.new.session c.replace-session.ensures.put c.replace.ensures.put in
    let k : Hall = record { desk = c.ask-told.new.self; clients = g.S.Sessions.clients c.replace.new.self } in
    subst (λ (z : Hall). IsAskedIn c.args.n c.args.line z k c.ask-told.result) c.self.view_is
    (asked_in h c.args.n is_open k c.args.line c.replace-session.result c.ask-told.new.session c.ask-told.result c.replace-session.ensures.before
    c.ask-told.ensures.answered c.ask-told.ensures.still clients)

pub returns-clause-noted : goal.returns-clause-noted
returns-clause-noted g c =
    let h : Hall = record { desk = c.self.inside.db; clients = g.S.Sessions.clients c.self.inside.sessions } in
    let is_open = subst (λ (z : Hall). (client_in z c.args.n).is_open ≡ true) (sym c.self.view_is) c.requires in
    subst (λ (z : Hall). IsNoted (outcome_in z c.args.n c.args.line) (client_in z c.args.n).principal c.args.line c.args.note.now c.ask-told.new.note c.ask-told.result) c.self.view_is
    (asked_noted h c.args.n c.args.line c.replace-session.result c.args.note.now c.ask-told.new.note c.ask-told.result is_open c.replace-session.ensures.before c.ask-told.ensures.noted)
