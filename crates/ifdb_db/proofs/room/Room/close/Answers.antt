use Rattle.std.proofs.Common.{◌≡◌, true, sym, subst}
use Rattle.ifdb_db.specs.Kept.{AreHeld}
use Rattle.ifdb_db.specs.Room.{Hall, client_in}
use Rattle.ifdb_db.specs.RoomSteps.{IsLeftBy}
use Rattle.ifdb_db.proofs.Returning.{held_left, is_held, left_by, put_after, stands_in}
use Rattle.ifdb_db.proofs.room.Room.close.Goals as goal

pub replace-session-requires : goal.replace-session-requires
replace-session-requires g c = subst (λ (z : Hall). (client_in z c.args.n).is_open ≡ true) (sym c.self.view_is) c.requires

pub leave-requires : goal.leave-requires
leave-requires g c =
    let h : Hall = record { desk = c.self.inside.db; clients = g.S.Sessions.clients c.self.inside.sessions } in
    let is_open = subst (λ (z : Hall). (client_in z c.args.n).is_open ≡ true) (sym c.self.view_is) c.requires in
    record { kept = is_held h c.args.n is_open c.replace-session.result c.replace-session.ensures.before c.self.invariant }

pub replace-requires : goal.replace-requires
replace-requires g c =
    let h : Hall = record { desk = c.self.inside.db; clients = g.S.Sessions.clients c.self.inside.sessions } in
    let is_open = subst (λ (z : Hall). (client_in z c.args.n).is_open ≡ true) (sym c.self.view_is) c.requires in
    stands_in h c.args.n is_open (g.S.Sessions.clients c.replace-session.new.self) c.new.result c.new.ensures c.replace-session.ensures.put

pub invariant_of-self : goal.invariant_of-self
invariant_of-self g c =
    let h : Hall = record { desk = c.self.inside.db; clients = g.S.Sessions.clients c.self.inside.sessions } in
    let is_open = subst (λ (z : Hall). (client_in z c.args.n).is_open ≡ true) (sym c.self.view_is) c.requires in
    let clients = put_after h c.args.n is_open (g.S.Sessions.clients c.replace-session.new.self) (g.S.Sessions.clients c.replace.new.self) c.new.result c.leave.new.session c.replace-session.ensures.put c.replace.ensures.put in
    subst (AreHeld c.leave.new.self) (sym clients)
    (held_left h c.args.n is_open c.leave.new.self c.replace-session.result c.leave.new.session c.leave.ensures.desk c.leave.ensures.kept c.self.invariant)

pub returns : goal.returns
returns g c =
    let h : Hall = record { desk = c.self.inside.db; clients = g.S.Sessions.clients c.self.inside.sessions } in
    let is_open = subst (λ (z : Hall). (client_in z c.args.n).is_open ≡ true) (sym c.self.view_is) c.requires in
    let clients = put_after h c.args.n is_open (g.S.Sessions.clients c.replace-session.new.self) (g.S.Sessions.clients c.replace.new.self) c.new.result c.leave.new.session c.replace-session.ensures.put c.replace.ensures.put in
    let k : Hall = record { desk = c.leave.new.self; clients = g.S.Sessions.clients c.replace.new.self } in
    subst (λ (z : Hall). IsLeftBy c.args.n z k) c.self.view_is
    (left_by h c.args.n is_open k c.replace-session.result c.leave.new.session c.replace-session.ensures.before c.leave.ensures.session c.leave.ensures.desk clients)
