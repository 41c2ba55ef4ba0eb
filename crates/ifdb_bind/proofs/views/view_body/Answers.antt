use Rattle.std.proofs.Common.{List, subst}
use Rattle.std.specs.List.{list_all}
use Rattle.std.proofs.lemmas.Result.{err_from_is_err_and}
use Rattle.ifdb_syntax.specs.declared.select.Source.{Source}
use Rattle.ifdb_catalog.specs.Queries.{is_relation}
use Rattle.ifdb_catalog.specs.Binding.{create_view}
use Rattle.ifdb_select.specs.Lacks.{Lacks}
use Rattle.ifdb_select.proofs.Lacking.{refused}
use Rattle.ifdb_bind.proofs.ViewChecks.{unknown_source}
use Rattle.ifdb_bind.proofs.views.view_body.Goals as goal

pub returns-in_err-scope-clause-refused : goal.returns-in_err-scope-clause-refused
returns-in_err-scope-clause-refused c =
    let p = c.args.catalog.now in
    let view = c.args.view.now in
    let known = λ (sources : List Source). list_all (λ (x : Source). is_relation p x.name) sources in
    let fault = c.in_err-scope.field-0.0 in
    let exit = err_from_is_err_and c.from_residual.result c.from_residual.ensures.1 in
    rw (exit.1, exit.2)
    (refused fault (known view.select.sources) (create_view p c.args._asker view.name view.select view.tags)
    (subst (λ (sources : List Source). Lacks fault (known sources)) c.items.ensures c.in_err-scope.ensures.lacks)
    (unknown_source p c.args._asker view.name view.select view.tags c.requires))
