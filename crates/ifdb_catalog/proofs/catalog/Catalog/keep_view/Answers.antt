use Rattle.std.proofs.Common.{◌≡◌, true, bytes_eq, List, ℕ, ap, subst, sym, ◌∙◌}
use Rattle.indexmap.specs.IndexMap.{insert_entry}
use Rattle.ifdb_bound.specs.declared.request.Change.TheVariants as change
use Rattle.ifdb_bound.specs.declared.schema.ViewDef.{ViewDef}
use Rattle.ifdb_catalog.specs.Public.{Public, changed}
use Rattle.ifdb_catalog.specs.Fits.{change_fits, is_new}
use Rattle.ifdb_catalog.specs.Kept.{Named, public_of, IsKept}
use Rattle.ifdb_catalog.proofs.Changes.{next_view, view_kept}
use Rattle.ifdb_catalog.proofs.catalog.Catalog.keep_view.Goals as goal

pub invariant_of-self-2 : goal.invariant_of-self-2
invariant_of-self-2 c =
    let i = c.self.inside in
    let t = c.args.view in
    let made = change.View c.args.view in
    let Kept : List (Named ViewDef) → Type 0 = λ es. IsKept i.tag_names.keys i.tags i.authority i.tables.entries es (public_of i.principals.entries i.tag_names.keys i.tags i.authority i.tables.entries es) in
    let P : Public → Type 0 = λ p. is_new p made ≡ true → change_fits p made ≡ true → Kept (insert_entry bytes_eq i.views.entries t.name t) in
    let entries = c.in_ok-insert.ensures.entries ∙ ap (λ (n : List ℕ). insert_entry bytes_eq i.views.entries n t) c.in_ok-name.ensures in
    subst Kept (sym entries)
    (subst P c.self.view_is (view_kept i.principals.entries i.tag_names.keys i.tags i.authority i.tables.entries i.views.entries c.self.invariant
    c.args.view) c.requires.new c.requires.fits)

pub returns-clause-done : goal.returns-clause-done
returns-clause-done c =
    let i = c.self.inside in
    let t = c.args.view in
    let made = change.View c.args.view in
    let of : List (Named ViewDef) → Public = λ es. public_of i.principals.entries i.tag_names.keys i.tags i.authority i.tables.entries es in
    let P : Public → Type 0 = λ p. is_new p made ≡ true → of (insert_entry bytes_eq i.views.entries t.name t) ≡ changed p made in
    let entries = c.in_ok-insert.ensures.entries ∙ ap (λ (n : List ℕ). insert_entry bytes_eq i.views.entries n t) c.in_ok-name.ensures in
    ap of entries
    ∙ subst P c.self.view_is (next_view i.principals.entries i.tag_names.keys i.tags i.authority i.tables.entries i.views.entries c.self.invariant
    c.args.view) c.requires.new
