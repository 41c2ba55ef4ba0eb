use Rattle.std.proofs.Common.{◌≡◌, subst, ◌∙◌, Some, rules}
use Rattle.ifdb_catalog.specs.Public.{Public, tag_named}
use Rattle.ifdb_catalog.specs.Kept.{public_of}
use Rattle.ifdb_catalog.proofs.Lookups.{tag-place}
use Rattle.ifdb_catalog.proofs.catalog.Catalog.tag.Goals as goal

pub returns-in_err-place : goal.returns-in_err-place
returns-in_err-place c =
    let i = c.self.inside in
    let state = public_of i.principals.entries i.tag_names.keys i.tags i.authority i.tables.entries i.views.entries in
    let P : Public → Type 0 = λ p. c.from_residual.result ≡ tag_named p c.args.name.now in
    subst P c.self.view_is (search (rules, tag-place state c.self.inside.tag_names.keys c.args.name.now c.self.invariant.names))

pub returns : goal.returns
returns c =
    let i = c.self.inside in
    let state = public_of i.principals.entries i.tag_names.keys i.tags i.authority i.tables.entries i.views.entries in
    let P : Public → Type 0 = λ p. Some c.in_ok-place.place ≡ tag_named p c.args.name.now in
    subst P c.self.view_is (c.in_ok-place.ensures.index ∙ tag-place state c.self.inside.tag_names.keys c.args.name.now c.self.invariant.names)
