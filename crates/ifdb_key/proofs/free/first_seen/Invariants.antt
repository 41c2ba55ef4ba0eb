use Rattle.std.proofs.Common.{◌≡◌, length, None}
use Rattle.std.specs.Prelude.{filter, find}
use Rattle.std.specs.Option.{option_copied}
use Rattle.ifdb_row.specs.declared.row.Row.{Row}
use Rattle.ifdb_label.specs.Label.{flows}
use Rattle.ifdb_row.specs.Questions.{is_further}
use Rattle.ifdb_key.proofs.free.first_seen.Given as goal

-- the rows behind the label tell
abbrev pub invariant-keyed : goal.invariant-keyed
invariant-keyed g l = find (λ (r : Row). flows l.tags r.slot.label l.label) (filter (is_further l.table l.key (option_copied l.after)) (g.R.Rows.rows l.rows)) ≡ find (λ (r : Row). flows l.tags r.slot.label l.label) (filter (is_further l.table l.key None) (g.R.Rows.rows l.rows))

abbrev pub decreases-keyed : goal.decreases-keyed
decreases-keyed g l = length (filter (is_further l.table l.key (option_copied l.after)) (g.R.Rows.rows l.rows))
