use Rattle.std.proofs.Common.{List, ℕ, length, sym, subst}
use Rattle.ifdb_label.specs.Tags.{AreMade}
use Rattle.ifdb_catalog.proofs.Made.{view_gives_made}
use Rattle.ifdb_catalog.proofs.catalog.Catalog.add_view.Goals as goal

-- the tags that a view declassifies are made
pub has_tags-requires : goal.has_tags-requires
has_tags-requires c =
    subst (λ (list : List ℕ). AreMade (length c.args.self.now.tags) list) (sym c.tags.ensures.value)
    (view_gives_made c.args.self.now c.args.view c.requires.fits)
