use Rattle.std.proofs.Common.{List, subst}
use Rattle.std.specs.List.{list_all}
use Rattle.std.proofs.lemmas.Result.{err_from_is_err_and}
use Rattle.ifdb_syntax.specs.declared.select.Source.{Source}
use Rattle.ifdb_catalog.specs.Queries.{is_relation}
use Rattle.ifdb_select.specs.Lacks.{Lacks}
use Rattle.ifdb_select.proofs.Lacking.{lacks_first}
use Rattle.ifdb_select.proofs.queries.bound_select.Goals as goal

pub returns-in_err-sources-clause-lacks : goal.returns-in_err-sources-clause-lacks
returns-in_err-sources-clause-lacks c =
    let known = λ (sources : List Source). list_all (λ (x : Source). is_relation c.args.catalog.now x.name) sources in
    let fault = c.in_err-sources.field-0.0 in
    let p = err_from_is_err_and c.from_residual.result c.from_residual.ensures.1 in
    rw (p.1, p.2) (lacks_first fault _ _ (subst (λ (sources : List Source). Lacks fault (known sources)) c.items.ensures c.in_err-sources.ensures.lacks))
