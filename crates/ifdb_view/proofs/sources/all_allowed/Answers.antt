use Rattle.std.proofs.Common.{sym, ◌∙◌}
use Rattle.ifdb_bound.specs.declared.select.BoundSource.{BoundSource}
use Rattle.ifdb_expr.specs.Query.{is_allowed}
use Rattle.ifdb_view.specs.Made.{setting}
use Rattle.ifdb_view.proofs.Giving.{rest_none, rest_passes}
use Rattle.ifdb_view.proofs.sources.all_allowed.Goals as goal

pub loop-source-preserved : goal.loop-source-preserved
loop-source-preserved g c tags names =
    rest_passes (λ (x : BoundSource). is_allowed (setting tags names (g.V.Views.views c.args.views.now) (g.V.Views.allows c.args.views.now)) x.relation) c.args.sources.now c.loop-source.source-index c.source-item.result c.loop-source-test.true c.source-item.is (sym (c.in_ok-is_allowed.ensures tags names) ∙ c.if-not-is_allowed.false)
    ∙ c.loop-source.invariant tags names

pub returns : goal.returns
returns g c tags names = sym (rest_none (λ (x : BoundSource). is_allowed (setting tags names (g.V.Views.views c.args.views.now) (g.V.Views.allows c.args.views.now)) x.relation) c.args.sources.now c.loop-source.source-index c.loop-source-test.false) ∙ c.loop-source.invariant tags names
