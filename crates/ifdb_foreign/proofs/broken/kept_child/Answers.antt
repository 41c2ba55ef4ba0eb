use Rattle.std.proofs.Common.{sym, ap, ◌∙◌}
use Rattle.ifdb_row.specs.Writes.{is_gone}
use Rattle.ifdb_foreign.proofs.KeptRows.{kept_by_row, kept_by_deletion}
use Rattle.ifdb_foreign.proofs.broken.kept_child.Goals as goal

pub returns-in-Some : goal.returns-in-Some
returns-in-Some g c = sym (kept_by_row c.args.writes.now c.args.write.now (g.R.Rows.rows c.args.before.now) (ap is_gone c.in-Some.is))

pub returns-in-None : goal.returns-in-None
returns-in-None g c = c.unwritten_child.ensures ∙ kept_by_deletion c.args.writes.now c.args.write.now (g.R.Rows.rows c.args.before.now) (ap is_gone c.in-None.is)
