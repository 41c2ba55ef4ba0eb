use Rattle.std.proofs.Common.{◌≡◌, false, List, None, nat_eq, subst}
use Rattle.std.specs.Prelude.{IfSome}
use Rattle.indexmap.specs.IndexMap.{get}
use Rattle.ifdb_db.specs.Client.{Client}
use Rattle.ifdb_db.specs.Sessions.{client_at, shown_by}
use Rattle.ifdb_db.proofs.SessionLaws.{looked_up}
use Rattle.ifdb_db.proofs.sessions.open.OpenSessionsSessions.find.Goals as goal

pub returns-clause-some : goal.returns-clause-some
returns-clause-some c =
    subst (λ (z : List Client). IfSome c.get.result (λ s. s.now ≡ client_at z c.args.n)) c.self.view_is
    (looked_up (get nat_eq c.self.inside.kept) (shown_by c.self.inside.over.items) c.self.invariant c.args.n c.get.result c.get.ensures.value).0

pub returns-clause-closed : goal.returns-clause-closed
returns-clause-closed c =
    subst (λ (z : List Client). c.get.result ≡ None → (client_at z c.args.n).is_open ≡ false) c.self.view_is
    (λ none. ((looked_up (get nat_eq c.self.inside.kept) (shown_by c.self.inside.over.items) c.self.invariant c.args.n c.get.result c.get.ensures.value).1 none).closed)

pub returns-clause-txn : goal.returns-clause-txn
returns-clause-txn c =
    subst (λ (z : List Client). c.get.result ≡ None → (client_at z c.args.n).txn ≡ None) c.self.view_is
    (λ none. ((looked_up (get nat_eq c.self.inside.kept) (shown_by c.self.inside.over.items) c.self.invariant c.args.n c.get.result c.get.ensures.value).1 none).txn)
