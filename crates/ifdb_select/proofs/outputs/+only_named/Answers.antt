use Rattle.std.proofs.Common.{ℕ, Bool, List, Option, Some, None, ◌-◌, length, take, drop, cond, ap, sym, ◌∙◌, arith}
use Rattle.ifdb_catalog.specs.Scope.{the_one}
use Rattle.ifdb_catalog.specs.Queries.{outputs_named}
use Rattle.ifdb_select.proofs.Columns.{first_and_rest}
use Rattle.ifdb_select.proofs.OutputNames.{first_named}
use Rattle.ifdb_select.proofs.outputs.+only_named.Goals as goal

pub returns-then-is : goal.returns-then-is
returns-then-is t c =
    let names = c.args.names.now in
    let name = c.args.name.now in
    let place = c.args.place in
    let first = c.first-item.result in
    let rest = take (length names - 1) (drop 1 names) in
    let all = first_and_rest names first (omega arith) c.first-item.is in
    c.unless.ensures
    ∙ (ap (λ (more : Bool). cond more None (Some place)) c.has_name.ensures
    ∙ (sym (first_named name place first rest (sym c.is.ensures ∙ c.if-is.true))
    ∙ ap (λ (l : List (Option (List ℕ))). the_one (outputs_named name place l)) (sym all)))
