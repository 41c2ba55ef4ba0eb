use Rattle.std.proofs.Common.{rules, sym, ◌∙◌}
use Rattle.ifdb_row.specs.Slots.{is_same_label}
use Rattle.ifdb_row.specs.declared.row.Row.{Row}
use Rattle.ifdb_row.specs.ByReference.{row_of}
use Rattle.ifdb_txn.proofs.Matching.{all_map, all_miss}
use Rattle.ifdb_txn.proofs.matched.are_writable.Goals as goal

pub returns-then-not-is_same_label : goal.returns-then-not-is_same_label
returns-then-not-is_same_label c = sym (all_map (λ (r : Row). is_same_label r.slot.label c.args.label.now) row_of c.args.rows.now ∙ all_miss (λ r. is_same_label (row_of r).slot.label c.args.label.now) c.args.rows.now c.loop-row.row-index c.row-item.result (search rules) (search rules) (search rules))
