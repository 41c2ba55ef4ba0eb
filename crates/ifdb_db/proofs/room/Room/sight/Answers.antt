use Rattle.std.proofs.Common.{◌∙◌, sym, ap, subst}
use Rattle.std.specs.Prelude.{IfSome}
use Rattle.ifdb_db.specs.Client.{Client}
use Rattle.ifdb_db.specs.Looks.{IsSightOf}
use Rattle.ifdb_db.specs.Room.{Hall}
use Rattle.ifdb_db.proofs.Returning.{is_held, is_seen}
use Rattle.ifdb_db.proofs.room.Room.sight.Goals as goal

pub sight-requires-clause-open : goal.sight-requires-clause-open
sight-requires-clause-open g c = sym c.is_open.ensures ∙ c.if-not-is_open.false

pub sight-requires-clause-kept : goal.sight-requires-clause-kept
sight-requires-clause-kept g c =
    let h : Hall = record { desk = c.self.inside.db; clients = g.S.Sessions.clients c.self.inside.sessions } in
    let is_open = ap (λ (z : Client). z.is_open) (sym c.in-Some.ensures.some) ∙ sym c.is_open.ensures ∙ c.if-not-is_open.false in
    is_held h c.args.n is_open c.in-Some.session.now c.in-Some.ensures.some c.self.invariant

pub returns : goal.returns
returns g c =
    let h : Hall = record { desk = c.self.inside.db; clients = g.S.Sessions.clients c.self.inside.sessions } in
    let is_open = ap (λ (z : Client). z.is_open) (sym c.in-Some.ensures.some) ∙ sym c.is_open.ensures ∙ c.if-not-is_open.false in
    subst (λ (z : Hall). IfSome c.sight.result (IsSightOf z c.args.n)) c.self.view_is
    (is_seen h c.args.n is_open c.in-Some.session.now c.in-Some.ensures.some c.sight.result c.sight.ensures.client c.sight.ensures.seen)
