use Rattle.std.proofs.Common.{◌≡◌, ◌-◌, ◌∙◌, true, List, sym, ap, subst}
use Rattle.ifdb_db.specs.Client.{Client}
use Rattle.ifdb_db.specs.Kept.{AreHeld, IsHeld}
use Rattle.ifdb_db.specs.Lent.{with_client}
use Rattle.ifdb_db.specs.Room.{Hall, client_in}
use Rattle.ifdb_db.proofs.Keeping.{all_set}
use Rattle.ifdb_db.proofs.room.Room.put.Goals as goal

pub replace-requires : goal.replace-requires
replace-requires g c = subst (λ (z : Hall). (client_in z c.args.n).is_open ≡ true) (sym c.self.view_is) c.requires.open

pub invariant_of-self : goal.invariant_of-self
invariant_of-self g c =
    let kept = subst (λ (z : Hall). IsHeld z.desk c.args.session) (sym c.self.view_is) c.requires.kept in
    subst (AreHeld c.self.inside.db) (sym c.replace.ensures.put)
    (all_set (IsHeld c.self.inside.db) (g.S.Sessions.clients c.self.inside.sessions) (c.args.n - 1) c.args.session kept c.self.invariant)

pub returns-clause-put : goal.returns-clause-put
returns-clause-put g c =
    let put : (cs : List Client) → Hall = λ cs. record { desk = c.self.inside.db; clients = cs } in
    ap put c.replace.ensures.put ∙ ap (λ (z : Hall). with_client z c.args.n c.args.session) c.self.view_is

pub returns-clause-before : goal.returns-clause-before
returns-clause-before g c = c.replace.ensures.before ∙ ap (λ (z : Hall). client_in z c.args.n) c.self.view_is
