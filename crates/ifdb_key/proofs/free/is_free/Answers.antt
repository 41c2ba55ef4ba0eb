use Rattle.std.proofs.Common.{sym, ◌∙◌, ap}
use Rattle.std.specs.Prelude.{is_some, not}
use Rattle.ifdb_row.specs.declared.row.Row.{Row}
use Rattle.ifdb_label.specs.Label.{flows}
use Rattle.ifdb_row.proofs.KeyRows.{any_found}
use Rattle.ifdb_key.proofs.free.is_free.Goals as goal

pub returns-in-Some : goal.returns-in-Some
returns-in-Some g c = ap (λ o. not (is_some o)) c.in-Some.ensures ∙ sym (ap not (any_found c.args.table c.args.key.now (λ (r : Row). flows c.args.tags.now r.slot.label c.args.label.now) (g.R.Rows.rows c.args.rows.now)))

pub returns-in-None : goal.returns-in-None
returns-in-None g c = ap (λ o. not (is_some o)) c.in-None.ensures ∙ sym (ap not (any_found c.args.table c.args.key.now (λ (r : Row). flows c.args.tags.now r.slot.label c.args.label.now) (g.R.Rows.rows c.args.rows.now)))
