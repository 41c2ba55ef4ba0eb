use Rattle.std.proofs.Common.{◌≡◌, subst, ◌∙◌, Some, None, rules}
use Rattle.ifdb_bound.specs.declared.select.Relation.TheVariants as relation
use Rattle.std.specs.Map.{keys_of}
use Rattle.ifdb_catalog.specs.Public.{Public, relation_named, table_named, view_named}
use Rattle.ifdb_catalog.specs.Kept.{public_of}
use Rattle.ifdb_catalog.proofs.Lookups.{table-place, view-place, relation-table, relation-view}
use Rattle.ifdb_catalog.proofs.catalog.Catalog.relation.Goals as goal

pub returns-in-Some : goal.returns-in-Some
returns-in-Some c =
    let i = c.self.inside in
    let state = public_of i.principals.entries i.tag_names.keys i.tags i.authority i.tables.entries i.views.entries in
    let P : Public → Type 0 = λ p. Some (relation.Table c.in-Some.place) ≡ relation_named p c.args.name.now in
    let found = c.in-Some.ensures.index ∙ table-place state (keys_of i.tables.entries) c.args.name.now c.self.invariant.tables in
    subst P c.self.view_is (relation-table state c.args.name.now c.in-Some.place found)

pub returns-in_err-place : goal.returns-in_err-place
returns-in_err-place c =
    let i = c.self.inside in
    let name = c.args.name.now in
    let state = public_of i.principals.entries i.tag_names.keys i.tags i.authority i.tables.entries i.views.entries in
    let P : Public → Type 0 = λ p. c.from_residual.result ≡ relation_named p name in
    let none : None ≡ table_named state name = search (rules, table-place state (keys_of i.tables.entries) name c.self.invariant.tables) in
    let no_view : None ≡ view_named state name = search (rules, view-place state (keys_of i.views.entries) name c.self.invariant.views) in
    subst P c.self.view_is (search (rules, relation-view state name None none no_view))

pub returns : goal.returns
returns c =
    let i = c.self.inside in
    let name = c.args.name.now in
    let state = public_of i.principals.entries i.tag_names.keys i.tags i.authority i.tables.entries i.views.entries in
    let P : Public → Type 0 = λ p. Some (relation.View c.in_ok-place.place) ≡ relation_named p name in
    let none : None ≡ table_named state name = search (rules, table-place state (keys_of i.tables.entries) name c.self.invariant.tables) in
    let view = c.in_ok-place.ensures.index ∙ view-place state (keys_of i.views.entries) name c.self.invariant.views in
    subst P c.self.view_is (relation-view state name (Some c.in_ok-place.place) none view)
