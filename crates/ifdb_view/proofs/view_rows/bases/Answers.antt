use Rattle.std.proofs.Common.{ap, ◌∙◌, List, map}
use Rattle.std.proofs.lemmas.List.{take_all}
use Rattle.ifdb_bound.specs.declared.select.BoundSource.{BoundSource}
use Rattle.ifdb_expr.specs.View.{base_rows}
use Rattle.ifdb_view.specs.Keyed.{are_sources_keyed}
use Rattle.ifdb_view.proofs.view_rows.bases.Goals as goal

pub returns-clause-rows : goal.returns-clause-rows
returns-clause-rows c tags rows label =
    c.loop-source.invariant.rows tags rows label
    ∙ ap (λ (l : List BoundSource). map (λ (s : BoundSource). base_rows tags rows label s.relation) l) (take_all c.loop-source.source-index c.args.sources.now c.loop-source-test.false)

pub returns-clause-keyed : goal.returns-clause-keyed
returns-clause-keyed c rows h =
    c.loop-source.invariant.keyed rows (ap (are_sources_keyed rows) (take_all c.loop-source.source-index c.args.sources.now c.loop-source-test.false) ∙ h)
