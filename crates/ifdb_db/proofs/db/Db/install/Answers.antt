use Rattle.std.proofs.Common.{◌≡◌, ◌+◌, ◌++◌, ◌∷◌, [], rules, true, ap, refl, sym, subst, ◌∙◌}
use Rattle.ifdb_row.specs.Content.{after}
use Rattle.ifdb_row.specs.Writes.{are_fitting}
use Rattle.ifdb_snapshot.specs.Writing.{are_fit}
use Rattle.ifdb_db.specs.Desk.{Desk, oldest_of, without}
use Rattle.ifdb_db.specs.Kept.{Outgrows, keeps_parents}
use Rattle.ifdb_db.proofs.Keeping.{fit_later}
use Rattle.ifdb_db.proofs.Landing.{landed, ordered_one_less}
use Rattle.ifdb_db.proofs.db.Db.install.Goals as goal

pub invariant_of-self-2 : goal.invariant_of-self-2
invariant_of-self-2 c =
    let d : Desk = record {
      seen = record { public = c.self.inside.public; rows = c.self.inside.store.rows };
      commits = c.self.inside.store.commits;
      count = c.self.inside.count;
      begins = c.self.inside.begins.items;
    } in
    let ws = c.args.txn.own in
    let oldest = c.oldest_of.ensures ∙ ap (λ begins. oldest_of begins (d.count + 1)) c.deref-2.ensures.value in
    let kept = subst (λ (x : Desk). Outgrows c.args.txn.base.public x.seen.public) (sym c.self.view_is) c.requires.kept in
    let fit = subst (λ own. are_fit c.args.txn.base.public own ≡ true) c.own.ensures.own c.own.ensures.fit in
    let fitting = subst (λ own. are_fitting own ≡ true) c.own.ensures.own c.own.ensures.fitting in
    let parents = subst (λ (x : Desk). keeps_parents x.seen.rows ws ≡ true) (sym c.self.view_is) c.requires.rooted in
    let away = c.take_away.ensures ∙ ap (λ b. without b d.begins) c.begin-begin.ensures in
    let done : c.commit.new.store ≡ record {
      rows = after c.self.inside.store.rows ws;
      commits = c.self.inside.store.commits ++ record { stamp = c.self.inside.count + 1; writes = ws } ∷ [];
    } = search rules in
    landed d c.self.invariant c.settle.new.store.rows c.settle.new.store.commits c.oldest_of.result ws c.take_away.new.begins.items (without c.args.txn.begin d.begins) c.commit.new.store _ _
    away (ordered_one_less d c.args.txn.begin c.self.invariant) (fit_later c.args.txn.base.public d.seen.public ws kept fit) fitting parents refl refl done
    c.settle.ensures.rows oldest c.settle.ensures.commits
