-- decides: labels and authority
-- Labels: rising lists of tags, and how they flow.
use Rattle.std.specs.Prelude.{ℕ, Bool, true, List, [], ◌∷◌, ◌++◌, ◌==◌, ◌&&◌, not, nat_lt, filter, if◌then◌else◌}
use Rattle.std.specs.List.{list_all, list_any}
use Rattle.ifdb_label.specs.Tags.{MadeTag, below}

-- each tag has a smaller number than all behind it
abbrev pub is_rising : List ℕ → Bool
is_rising [] = true
is_rising (t ∷ ts) = list_all (λ u. nat_lt t u) ts && is_rising ts

-- a tag is below some tag of the list
abbrev pub is_below_some : List MadeTag → ℕ → List ℕ → Bool
is_below_some tags t list = list_any (λ u. below tags t u) list

-- each tag of a is below some tag of b
abbrev pub flows : List MadeTag → List ℕ → List ℕ → Bool
flows tags a b = list_all (λ t. is_below_some tags t b) a

-- a tag put into its place in a rising list, unless it stands there
abbrev pub with_tag : ℕ → List ℕ → List ℕ
with_tag tag [] = tag ∷ []
with_tag tag (t ∷ ts) = if nat_lt tag t then tag ∷ t ∷ ts else (if t == tag then t ∷ ts else t ∷ with_tag tag ts)

-- each tag of a list put into a rising list
abbrev pub with_tags : List ℕ → List ℕ → List ℕ
with_tags [] list = list
with_tags (t ∷ ts) list = with_tag t (with_tags ts list)

-- the tags of a list, rising, each once
abbrev pub rising : List ℕ → List ℕ
rising list = with_tags list []

-- a tag is below another tag of the list
abbrev pub is_below_another : List MadeTag → ℕ → List ℕ → Bool
is_below_another tags t list = list_any (λ u. not (t == u) && below tags t u) list

-- the tags of a that aren't below another tag of the list
abbrev pub without_lower : List MadeTag → List ℕ → List ℕ → List ℕ
without_lower tags a list = filter (λ t. not (is_below_another tags t list)) a

-- the tags of a list that aren't below another tag of it, rising, each once
abbrev pub reduce : List MadeTag → List ℕ → List ℕ
reduce tags list = without_lower tags (rising list) list

-- the reduction of both lists together
abbrev pub union : List MadeTag → List ℕ → List ℕ → List ℕ
union tags a b = reduce tags (a ++ b)

-- the tags of a that aren't below a tag of b
abbrev pub strip : List MadeTag → List ℕ → List ℕ → List ℕ
strip tags a b = filter (λ t. not (is_below_some tags t b)) a
