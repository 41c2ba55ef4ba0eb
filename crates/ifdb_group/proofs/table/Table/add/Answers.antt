use Rattle.std.proofs.Common.{◌∙◌, sym, map}
use Rattle.ifdb_bound.specs.Query.{same_values}
use Rattle.ifdb_expr.specs.ByReference.{owned}
use Rattle.ifdb_group.proofs.Grouping.{found_at, lost_at, stand_at, stand_new}
use Rattle.ifdb_group.proofs.table.Table.add.Goals as goal

pub add_key-requires : goal.add_key-requires
add_key-requires c = lost_at (λ k. same_values k (map owned c.args.key.now)) c.args.self.now.keys (sym c.find.ensures ∙ c.in-None.is)

pub returns-in_ok-add-in-Some : goal.returns-in_ok-add-in-Some
returns-in_ok-add-in-Some c columns e groups s =
    let at = found_at (λ k. same_values k (map owned c.args.key.now)) c.args.self.now.keys c.in-Some.place (sym c.find.ensures ∙ c.in-Some.is) in
    stand_at c.args.items.now columns c.args.frame.now (map owned c.args.key.now) c.args.self.now.keys c.args.self.now.totals.items c.in-Some.place c.index_mut.result.now c.add.new.self
    e at.0 at.1 c.index_mut.ensures.value c.in_ok-add-in-Some.ensures groups s

pub returns-in_ok-add_key-in-None : goal.returns-in_ok-add_key-in-None
returns-in_ok-add_key-in-None c columns e groups s =
    stand_new c.args.items.now columns c.args.frame.now (map owned c.args.key.now) c.args.self.now.keys c.add_key.new.self.keys c.args.self.now.totals.items c.add_key.new.self.totals.items
    e (lost_at (λ k. same_values k (map owned c.args.key.now)) c.args.self.now.keys (sym c.find.ensures ∙ c.in-None.is)) c.in_ok-add_key-in-None.ensures.0 c.in_ok-add_key-in-None.ensures.1 groups s
