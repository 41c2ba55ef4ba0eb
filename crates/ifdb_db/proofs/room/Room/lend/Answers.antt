use Rattle.std.proofs.Common.{◌≡◌, ◌∙◌, sym, ap, subst}
use Rattle.std.specs.Prelude.{IfSome}
use Rattle.ifdb_db.specs.Client.{Client}
use Rattle.ifdb_db.specs.Room.{Hall, client_in}
use Rattle.ifdb_db.proofs.Returning.{is_lent}
use Rattle.ifdb_db.proofs.room.Room.lend.Goals as goal

pub returns-clause-copy : goal.returns-clause-copy
returns-clause-copy g c =
    let h : Hall = record { desk = c.self.inside.db; clients = g.S.Sessions.clients c.self.inside.sessions } in
    let is_open = ap (λ (z : Client). z.is_open) (sym c.in-Some.ensures.some) ∙ sym c.is_open.ensures ∙ c.if-not-is_open.false in
    let lent = is_lent h c.args.n is_open c.in-Some.session.now c.in-Some.ensures.some c.self.invariant c.lend.result c.lend.ensures.copy c.lend.ensures.greeted c.lend.ensures.inside in
    subst (λ (z : Hall). IfSome c.lend.result (λ (s : Client). s ≡ client_in z c.args.n)) c.self.view_is lent.0

pub returns-clause-lent : goal.returns-clause-lent
returns-clause-lent g c =
    let h : Hall = record { desk = c.self.inside.db; clients = g.S.Sessions.clients c.self.inside.sessions } in
    let is_open = ap (λ (z : Client). z.is_open) (sym c.in-Some.ensures.some) ∙ sym c.is_open.ensures ∙ c.if-not-is_open.false in
    (is_lent h c.args.n is_open c.in-Some.session.now c.in-Some.ensures.some c.self.invariant c.lend.result c.lend.ensures.copy c.lend.ensures.greeted c.lend.ensures.inside).1
