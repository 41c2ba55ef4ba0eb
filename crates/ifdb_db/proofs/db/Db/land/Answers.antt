use Rattle.std.proofs.Common.{◌≡◌, ◌+◌, ◌++◌, ◌∷◌, [], rules, true, refl, ap, sym, subst, ◌∙◌}
use Rattle.ifdb_row.specs.Content.{after}
use Rattle.ifdb_row.specs.Writes.{are_fitting}
use Rattle.ifdb_snapshot.specs.Writing.{are_fit}
use Rattle.ifdb_db.specs.Desk.{Desk, oldest_of}
use Rattle.ifdb_db.specs.Kept.{keeps_parents}
use Rattle.ifdb_db.proofs.Landing.{landed, ordered_one_more}
use Rattle.ifdb_db.proofs.db.Db.land.Goals as goal

pub invariant_of-self-2 : goal.invariant_of-self-2
invariant_of-self-2 c =
    let d : Desk = record {
      seen = record { public = c.self.inside.public; rows = c.self.inside.store.rows };
      commits = c.self.inside.store.commits;
      count = c.self.inside.count;
      begins = c.self.inside.begins.items;
    } in
    let oldest = c.oldest_of.ensures ∙ ap (λ begins. oldest_of begins (d.count + 1)) c.deref-2.ensures.value in
    let fit = subst (λ (x : Desk). are_fit x.seen.public c.args.writes ≡ true) (sym c.self.view_is) c.requires.fit in
    let fitting = subst (λ ws. are_fitting ws ≡ true) c.writes.view_is c.writes.invariant.1 in
    let parents = subst (λ (x : Desk). keeps_parents x.seen.rows c.args.writes ≡ true) (sym c.self.view_is) c.requires.rooted in
    let done : c.commit.new.self ≡ record {
      rows = after c.self.inside.store.rows c.args.writes;
      commits = c.self.inside.store.commits ++ record { stamp = c.self.inside.count + 1; writes = c.args.writes } ∷ [];
    } = search rules in
    landed d c.self.invariant c.settle.new.store.rows c.settle.new.store.commits c.oldest_of.result c.args.writes d.begins d.begins c.commit.new.self _ _
    refl (ordered_one_more d c.self.invariant) fit fitting parents refl refl done
    c.settle.ensures.rows oldest c.settle.ensures.commits
