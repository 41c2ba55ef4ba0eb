use Rattle.std.proofs.Common.{◌≡◌, true, bytes_eq, List, ℕ, ap, subst, sym, ◌∙◌}
use Rattle.indexmap.specs.IndexMap.{insert_entry}
use Rattle.ifdb_bound.specs.declared.request.Change.TheVariants as change
use Rattle.ifdb_bound.specs.declared.schema.Schema.{Schema}
use Rattle.ifdb_catalog.specs.Public.{Public, changed}
use Rattle.ifdb_catalog.specs.Fits.{change_fits, is_new}
use Rattle.ifdb_catalog.specs.Kept.{Named, public_of, IsKept}
use Rattle.ifdb_catalog.proofs.Changes.{next_table, table_kept}
use Rattle.ifdb_catalog.proofs.catalog.Catalog.add_table.Goals as goal

pub invariant_of-self-2 : goal.invariant_of-self-2
invariant_of-self-2 c =
    let i = c.self.inside in
    let t = c.args.schema in
    let made = change.Table c.args._asker c.args.schema in
    let Kept : List (Named Schema) → Type 0 = λ es. IsKept i.tag_names.keys i.tags i.authority es i.views.entries (public_of i.principals.entries i.tag_names.keys i.tags i.authority es i.views.entries) in
    let P : Public → Type 0 = λ p. is_new p made ≡ true → change_fits p made ≡ true → Kept (insert_entry bytes_eq i.tables.entries t.name t) in
    let entries = c.in_ok-insert.ensures.entries ∙ ap (λ (n : List ℕ). insert_entry bytes_eq i.tables.entries n t) c.in_ok-name.ensures in
    subst Kept (sym entries)
    (subst P c.self.view_is (table_kept i.principals.entries i.tag_names.keys i.tags i.authority i.tables.entries i.views.entries c.self.invariant
    c.args._asker c.args.schema) c.requires.new c.requires.fits)

pub returns-clause-done : goal.returns-clause-done
returns-clause-done c =
    let i = c.self.inside in
    let t = c.args.schema in
    let made = change.Table c.args._asker c.args.schema in
    let of : List (Named Schema) → Public = λ es. public_of i.principals.entries i.tag_names.keys i.tags i.authority es i.views.entries in
    let P : Public → Type 0 = λ p. is_new p made ≡ true → of (insert_entry bytes_eq i.tables.entries t.name t) ≡ changed p made in
    let entries = c.in_ok-insert.ensures.entries ∙ ap (λ (n : List ℕ). insert_entry bytes_eq i.tables.entries n t) c.in_ok-name.ensures in
    ap of entries
    ∙ subst P c.self.view_is (next_table i.principals.entries i.tag_names.keys i.tags i.authority i.tables.entries i.views.entries c.self.invariant
    c.args._asker c.args.schema) c.requires.new
