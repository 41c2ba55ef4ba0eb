use Rattle.std.proofs.Common.{inr, Ok, sym, ap, ◌∙◌}
use Rattle.std.proofs.lemmas.Result.{err_from_is_err_and}
use Rattle.ifdb_bound.specs.declared.select.BoundSelect.{BoundSelect}
use Rattle.ifdb_bound.specs.declared.request.Bound.TheVariants as b
use Rattle.ifdb_catalog.specs.Queries.{select_is_known}
use Rattle.ifdb_catalog.specs.Binding.{select}
use Rattle.ifdb_select.proofs.Lacking.{refused}
use Rattle.ifdb_select.proofs.SelectChecks.{unknown, mismatched, accepted}
use Rattle.ifdb_select.proofs.statement.select_over.Goals as goal

pub returns-in_err-tree-clause-refused : goal.returns-in_err-tree-clause-refused
returns-in_err-tree-clause-refused c =
    let p = c.args.catalog.now in
    let scope = c.args.scope.now in
    let query = c.args.query.now in
    let exit = err_from_is_err_and c.from_residual.result c.from_residual.ensures.1 in
    rw (exit.1, exit.2)
    (refused c.in_err-tree.field-0.0 (select_is_known p scope query) (select p query) c.in_err-tree.ensures.lacks (unknown p query scope c.requires))

pub returns-then-select_fits-clause-bound : goal.returns-then-select_fits-clause-bound
returns-then-select_fits-clause-bound c =
    accepted c.args.catalog.now c.args.query.now c.args.scope.now c.requires c.in_ok-tree.ensures.known (sym c.select_fits.ensures ∙ c.if-select_fits.true)
    ∙ ap (λ (t : BoundSelect). Ok (b.Select t)) (sym c.in_ok-tree.ensures.tree)

pub returns-else-select_fits-clause-refused : goal.returns-else-select_fits-clause-refused
returns-else-select_fits-clause-refused c =
    inr (mismatched c.args.catalog.now c.args.query.now c.args.scope.now c.requires c.in_ok-tree.ensures.known (sym c.select_fits.ensures ∙ c.if-select_fits.false))
