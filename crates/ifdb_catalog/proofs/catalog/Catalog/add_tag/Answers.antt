use Rattle.std.proofs.Common.{◌≡◌, true, bytes_eq, List, ℕ, [], ◌∷◌, ◌++◌, subst, sym, ◌∙◌, rules}
use Rattle.indexmap.specs.IndexSet.{insert_key}
use Rattle.ifdb_label.specs.Tags.{MadeTag, made_tag}
use Rattle.ifdb_authority.specs.Authority.{Delegation, owned}
use Rattle.ifdb_bound.specs.declared.request.Change.TheVariants as change
use Rattle.ifdb_catalog.specs.Public.{Public, changed}
use Rattle.ifdb_catalog.specs.Fits.{change_fits, is_new}
use Rattle.ifdb_catalog.specs.Kept.{public_of, IsKept}
use Rattle.ifdb_catalog.proofs.Changes.{next_tag, tag_kept}
use Rattle.ifdb_catalog.proofs.catalog.Catalog.add_tag.Goals as goal

pub invariant_of-self-2 : goal.invariant_of-self-2
invariant_of-self-2 c =
    let i = c.self.inside in
    let a = c.args in
    let made = change.Tag a.asker a.name a.kind a.parents.items in
    let Kept : List (List ℕ) → List MadeTag → Delegation → Type 0 = λ ns ms d. IsKept ns ms d i.tables.entries i.views.entries (public_of i.principals.entries ns ms d i.tables.entries i.views.entries) in
    let P : Public → Type 0 = λ p. is_new p made ≡ true → change_fits p made ≡ true → Kept (insert_key bytes_eq i.tag_names.keys a.name) (i.tags ++ made_tag a.kind a.parents.items ∷ []) (owned i.authority a.asker) in
    let names : c.insert.new.self.keys ≡ insert_key bytes_eq i.tag_names.keys a.name = search rules in
    let tags : c.add.new.self ≡ i.tags ++ made_tag a.kind a.parents.items ∷ [] = search rules in
    let authority : c.made.new.self ≡ owned i.authority a.asker = search rules in
    let kept = subst P c.self.view_is (tag_kept i.principals.entries i.tag_names.keys i.tags i.authority i.tables.entries i.views.entries c.self.invariant
    a.asker a.name a.kind a.parents.items) c.requires.new c.requires.fits in
    subst (λ ns. Kept ns c.add.new.self c.made.new.self) (sym names)
    (subst (λ ms. Kept (insert_key bytes_eq i.tag_names.keys a.name) ms c.made.new.self) (sym tags)
    (subst (λ d. Kept (insert_key bytes_eq i.tag_names.keys a.name) (i.tags ++ made_tag a.kind a.parents.items ∷ []) d) (sym authority) kept))

pub returns-clause-done : goal.returns-clause-done
returns-clause-done c =
    let i = c.self.inside in
    let a = c.args in
    let made = change.Tag a.asker a.name a.kind a.parents.items in
    let of : List (List ℕ) → List MadeTag → Delegation → Public = λ ns ms d. public_of i.principals.entries ns ms d i.tables.entries i.views.entries in
    let P : Public → Type 0 = λ p. is_new p made ≡ true
    → of (insert_key bytes_eq i.tag_names.keys a.name) (i.tags ++ made_tag a.kind a.parents.items ∷ []) (owned i.authority a.asker) ≡ changed p made in
    let names : c.insert.new.self.keys ≡ insert_key bytes_eq i.tag_names.keys a.name = search rules in
    let tags : c.add.new.self ≡ i.tags ++ made_tag a.kind a.parents.items ∷ [] = search rules in
    let authority : c.made.new.self ≡ owned i.authority a.asker = search rules in
    (λ j. of (names j) (tags j) (authority j))
    ∙ subst P c.self.view_is (next_tag i.principals.entries i.tag_names.keys i.tags i.authority i.tables.entries i.views.entries c.self.invariant
    a.asker a.name a.kind a.parents.items) c.requires.new
