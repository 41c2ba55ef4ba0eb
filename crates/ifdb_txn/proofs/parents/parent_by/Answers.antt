use Rattle.std.proofs.Common.{subst, ◌∙◌, ap}
use Rattle.ifdb_row.specs.Seen.{parent_of}
use Rattle.ifdb_catalog.specs.Statements.{values_at}
use Rattle.ifdb_foreign.specs.Parents.{Binds}
use Rattle.ifdb_txn.proofs.parents.parent_by.Goals as goal

pub returns : goal.returns
returns g c = subst (λ key. Binds (parent_of c.args.target.now.from.tags.now (g.R.Rows.rows c.args.rows.now) c.args.foreign.now.parent key c.args.target.now.from.label.now c.args.target.now.from.given.now) c.bind_parent.result) (c.items-2.ensures ∙ (c.in_ok-key.ensures ∙ ap (values_at c.args.values.now) c.items.ensures)) c.bind_parent.ensures
