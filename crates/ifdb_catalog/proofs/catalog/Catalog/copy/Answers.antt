use Rattle.std.proofs.Common.{◌≡◌, ◌∙◌}
use Rattle.ifdb_catalog.specs.Kept.{public_of}
use Rattle.ifdb_catalog.proofs.catalog.Catalog.copy.Goals as goal

pub returns : goal.returns
returns c =
    let i = c.self.inside in
    let principals : c.in_ok-principals.principals.entries ≡ i.principals.entries = c.in_ok-principals.ensures in
    let names : c.in_ok-tag_names.tag_names.keys ≡ i.tag_names.keys = c.in_ok-tag_names.ensures in
    let tags : c.in_ok-tags.tags ≡ i.tags = c.in_ok-tags.ensures in
    let authority : c.in_ok-authority.authority ≡ i.authority = c.in_ok-authority.ensures in
    let tables : c.in_ok-tables.tables.entries ≡ i.tables.entries = c.in_ok-tables.ensures in
    let views : c.in_ok-views.views.entries ≡ i.views.entries = c.in_ok-views.ensures in
    (λ j. public_of (principals j) (names j) (tags j) (authority j) (tables j) (views j)) ∙ c.self.view_is
