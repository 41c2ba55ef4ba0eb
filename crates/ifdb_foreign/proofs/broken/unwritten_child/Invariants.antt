use Rattle.std.proofs.Common.{◌≡◌, length, None}
use Rattle.std.specs.Prelude.{filter, find, not}
use Rattle.ifdb_row.specs.declared.row.Row.{Row}
use Rattle.ifdb_row.specs.ByReference.{option_slot}
use Rattle.ifdb_row.specs.Writes.{is_written}
use Rattle.ifdb_foreign.proofs.ChildRows.{is_next_child}
use Rattle.ifdb_foreign.proofs.broken.unwritten_child.Given as goal

-- the children behind the slot tell
abbrev pub invariant-children : goal.invariant-children
invariant-children g l =
    find (λ (r : Row). not (is_written l.writes r.slot)) (filter (is_next_child l.slot (option_slot l.after)) (g.R.Rows.rows l.before))
    ≡ find (λ (r : Row). not (is_written l.writes r.slot)) (filter (is_next_child l.slot None) (g.R.Rows.rows l.before))

abbrev pub decreases-children : goal.decreases-children
decreases-children g l = length (filter (is_next_child l.slot (option_slot l.after)) (g.R.Rows.rows l.before))
