use Rattle.std.proofs.Common.{◌≡◌, subst, ◌∙◌, Some, rules}
use Rattle.ifdb_catalog.specs.Public.{Public, principal_named}
use Rattle.ifdb_catalog.proofs.Lookups.{principal-place}
use Rattle.ifdb_catalog.proofs.catalog.Catalog.principal.Goals as goal

pub returns-in_err-place : goal.returns-in_err-place
returns-in_err-place c =
    let P : Public → Type 0 = λ p. c.from_residual.result ≡ principal_named p c.args.name.now in
    subst P c.self.view_is (search (rules, principal-place c.self.inside.principals.entries c.args.name.now))

pub returns : goal.returns
returns c =
    let P : Public → Type 0 = λ p. Some c.in_ok-place.place ≡ principal_named p c.args.name.now in
    subst P c.self.view_is (c.in_ok-place.ensures.index ∙ principal-place c.self.inside.principals.entries c.args.name.now)
