use Rattle.std.proofs.Common.{◌≡◌, ◌++◌, take}
use Rattle.std.specs.Prelude.{flat_map}
use Rattle.ifdb_bound.specs.Query.{SourceRow}
use Rattle.ifdb_expr.specs.ByReference.{all_shown}
use Rattle.ifdb_view.proofs.view_label.push_labels.Given as goal

-- the tags of the rows so far
abbrev pub invariant-loop-row : goal.invariant-loop-row
invariant-loop-row l = l.all.items ≡ l.fn.all.items ++ flat_map (λ (r : SourceRow). r.label) (all_shown (take l.row-index l.rows))
