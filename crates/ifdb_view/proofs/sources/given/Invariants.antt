use Rattle.std.proofs.Common.{◌≡◌, Some, map, take, true}
use Rattle.ifdb_bound.specs.declared.select.BoundSource.{BoundSource}
use Rattle.ifdb_expr.specs.Query.{source_rows}
use Rattle.ifdb_exec.specs.Given.{are_given_keyed, rows_given}
use Rattle.ifdb_view.specs.Keyed.{are_sources_keyed}
use Rattle.ifdb_view.specs.Made.{setting}
use Rattle.ifdb_view.proofs.sources.given.Given as goal

-- the rows of each source so far are there
abbrev pub invariant-loop-source : goal.invariant-loop-source
invariant-loop-source g l = record {
  rows : map (λ (x : BoundSource). source_rows (setting l.reading.tags.now l.reading.names.now (g.V.Views.views l.views) (g.V.Views.allows l.views)) (g.R.Rows.rows l.rows) l.reading.label.now x.relation) (take l.source-index l.sources)
      ≡ map Some (map (rows_given l.reading.tags.now (g.R.Rows.rows l.rows) l.reading.label.now) l.all);
  keyed : are_sources_keyed (g.R.Rows.rows l.rows) (take l.source-index l.sources) ≡ true → are_given_keyed (g.R.Rows.rows l.rows) l.all ≡ true;
}
