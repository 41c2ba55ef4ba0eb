use Rattle.std.proofs.Common.{◌≡◌, ℕ, true, List, map, take}
use Rattle.ifdb_label.specs.Tags.{MadeTag}
use Rattle.ifdb_row.specs.declared.row.Row.{Row}
use Rattle.ifdb_bound.specs.declared.select.BoundSource.{BoundSource}
use Rattle.ifdb_expr.specs.View.{base_rows}
use Rattle.ifdb_exec.specs.Given.{are_given_keyed, rows_given}
use Rattle.ifdb_view.specs.Keyed.{are_sources_keyed}
use Rattle.ifdb_view.proofs.view_rows.bases.Given as goal

-- the rows of the sources so far
abbrev pub invariant-loop-source : goal.invariant-loop-source
invariant-loop-source l = record {
  rows : (tags : List MadeTag) (rows : List Row) (label : List ℕ) → map (rows_given tags rows label) l.all.items ≡ map (λ (s : BoundSource). base_rows tags rows label s.relation) (take l.source-index l.sources);
  keyed : (rows : List Row) → are_sources_keyed rows (take l.source-index l.sources) ≡ true → are_given_keyed rows l.all.items ≡ true;
}
