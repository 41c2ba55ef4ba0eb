use Rattle.std.proofs.Common.{◌≡◌, IfOk, subst, sym, ◌∙◌}
use Rattle.std.proofs.lemmas.Result.{IfOk-weaker}
use Rattle.ifdb_authority.specs.Authority.{holds_all}
use Rattle.ifdb_catalog.specs.Public.{Public, has_tags}
use Rattle.ifdb_catalog.specs.Kept.{public_of}
use Rattle.ifdb_catalog.proofs.catalog.Catalog.has_tags.Goals as goal

pub returns : goal.returns
returns c =
    let i = c.self.inside in
    let state = public_of i.principals.entries i.tag_names.keys i.tags i.authority i.tables.entries i.views.entries in
    let P : Public → Type 0 = λ p. IfOk c.holds_all.result (λ held. held ≡ has_tags p c.args.principal c.args.list.now) in
    let same : has_tags state c.args.principal c.args.list.now ≡ holds_all i.tags i.authority c.args.principal c.args.list.now
    = λ j. holds_all (c.self.invariant.tags j) (c.self.invariant.authority j) c.args.principal c.args.list.now in
    subst P c.self.view_is (IfOk-weaker c.holds_all.result _ _ (λ held h. h ∙ sym same) c.holds_all.ensures)
