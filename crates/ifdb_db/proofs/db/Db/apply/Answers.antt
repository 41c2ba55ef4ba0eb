use Rattle.std.proofs.Common.{◌+◌, ap, ◌∙◌}
use Rattle.ifdb_db.specs.Desk.{Desk, oldest_of}
use Rattle.ifdb_db.proofs.Landing.{changed_so}
use Rattle.ifdb_db.proofs.db.Db.apply.Goals as goal

pub invariant_of-self-2 : goal.invariant_of-self-2
invariant_of-self-2 c =
    let d : Desk = record {
      seen = record { public = c.self.inside.public; rows = c.self.inside.store.rows };
      commits = c.self.inside.store.commits;
      count = c.self.inside.count;
      begins = c.self.inside.begins.items;
    } in
    let oldest = c.oldest_of.ensures ∙ ap (λ begins. oldest_of begins (d.count + 1)) c.deref-2.ensures.value in
    changed_so d c.self.invariant c.settle.new.store.rows c.settle.new.store.commits c.oldest_of.result c.args.change c.apply.new.self
    c.in_ok-apply.ensures.done c.settle.ensures.rows oldest c.settle.ensures.commits
