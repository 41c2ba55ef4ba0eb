-- What is true of every public state, beside its catalog's invariant.
use Rattle.std.specs.Prelude.{◌≡◌, ℕ, List, length, Option, Some, None, IsTrue}
use Rattle.ifdb_bound.specs.declared.request.Change.{Change}
use Rattle.ifdb_bound.specs.declared.request.Change.TheVariants as change
use Rattle.ifdb_catalog.specs.Public.{Public, tag_names}
use Rattle.ifdb_view.specs.Made.{are_views_made}

-- these are the names of the tags, and each view can be computed
pub record IsListed (p : Public) (names_of_tags : List (List ℕ)) : Type 0 where
  pub names : names_of_tags ≡ tag_names p
  pub views : IsTrue (are_views_made (length p.tags) p.views)

-- the name of the tag that a change makes, if it makes one
abbrev pub new_tag : Change → Option (List ℕ)
new_tag (change.Tag asker name kind parents) = Some name
new_tag _ = None
