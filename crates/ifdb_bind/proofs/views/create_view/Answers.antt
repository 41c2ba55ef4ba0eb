use Rattle.std.proofs.Common.{inr, ap, sym, ◌∙◌}
use Rattle.std.specs.Option.{is_some}
use Rattle.ifdb_bind.proofs.ViewChecks.{taken}
use Rattle.ifdb_bind.proofs.views.create_view.Goals as goal

pub returns-then-is_some-clause-refused : goal.returns-then-is_some-clause-refused
returns-then-is_some-clause-refused c =
    inr (taken c.args.catalog.now c.args.asker c.args.view.name c.args.view.select c.args.view.tags
    (ap is_some (sym c.relation.ensures) ∙ (sym c.is_some.ensures ∙ c.if-is_some.true)))
