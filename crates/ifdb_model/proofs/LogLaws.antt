-- What a longer log leaves.
use Rattle.std.proofs.Common.{◌≡◌, List, [], ◌∷◌, ◌++◌, refl}
use Rattle.ifdb_row.specs.declared.row.Row.{Row}
use Rattle.ifdb_row.specs.Content.{after, content_from}
use Rattle.ifdb_catalog.specs.Public.{Public, changed}
use Rattle.ifdb_model.specs.Log.{Entry, changes, commits, public_from, commits_of}

-- the public state after one log and then another
pub public_from-append : (p : Public) (a b : List Entry) → public_from p (a ++ b) ≡ public_from (public_from p a) b
public_from-append p [] b = refl
public_from-append p (changes c ∷ a) b = public_from-append (changed p c) a b
public_from-append p (commits ws ∷ a) b = public_from-append p a b

-- the rows after one log and then another
pub content_from-append : (rows : List Row) (a b : List Entry)
    → content_from rows (commits_of (a ++ b)) ≡ content_from (content_from rows (commits_of a)) (commits_of b)
content_from-append rows [] b = refl
content_from-append rows (changes c ∷ a) b = content_from-append rows a b
content_from-append rows (commits ws ∷ a) b = content_from-append (after rows ws) a b
