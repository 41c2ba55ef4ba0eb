use Rattle.std.proofs.Common.{ap, ◌∙◌}
use Rattle.ifdb_db.specs.Desk.{Desk, oldest_of}
use Rattle.ifdb_db.proofs.Landing.{forgotten}
use Rattle.ifdb_db.proofs.db.Db.forget.Goals as goal

pub invariant_of-self : goal.invariant_of-self
invariant_of-self c =
    let d : Desk = record {
      seen = record { public = c.self.inside.public; rows = c.self.inside.store.rows };
      commits = c.self.inside.store.commits;
      count = c.self.inside.count;
      begins = c.self.inside.begins.items;
    } in
    let oldest = c.oldest_of.ensures ∙ ap (λ begins. oldest_of begins d.count) c.deref-2.ensures.value in
    forgotten d c.self.invariant c.settle.new.store.rows c.settle.new.store.commits c.oldest_of.result c.args.begin c.take_away.new.begins.items
    c.take_away.ensures c.settle.ensures.rows oldest c.settle.ensures.commits
