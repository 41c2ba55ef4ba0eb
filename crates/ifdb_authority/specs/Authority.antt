-- decides: labels and authority
-- Authority: who holds which tag.
use Rattle.std.specs.Prelude.{◌≡◌, ℕ, zero, suc, ◌+◌, Bool, true, false, List, [], ◌∷◌, ◌++◌, ◌==◌, ◌&&◌, ◌||◌, not, filter, length, slice_get, Option, Some, None, if◌then◌else◌}
use Rattle.std.specs.List.{list_any, list_all}
use Rattle.ifdb_label.specs.Tags.{MadeTag, parents_of}
use Rattle.ifdb_authority.specs.declared.grant.Grant.{Grant}

-- the owner of each tag, by the tag's number, and the grants that stand
pub record Delegation : Type 0 where
  pub owners : List ℕ
  pub grants : List Grant

-- no tags and no grants
abbrev pub no_authority : Delegation
no_authority = record { owners = []; grants = [] }

-- it is there, and it is this number
abbrev pub is_some_of : Option ℕ → ℕ → Bool
is_some_of None p = false
is_some_of (Some q) p = q == p

-- p made the tag; nobody made a tag that isn't made
abbrev pub is_owner : Delegation → ℕ → ℕ → Bool
is_owner a p t = is_some_of (slice_get a.owners t) p

-- the grant of a tag by one principal to another
abbrev pub grant : ℕ → ℕ → ℕ → Grant
grant from tag to = record { from = from; tag = tag; to = to }

-- two grants by one principal, of one tag, to one principal
abbrev pub is_same_grant : Grant → Grant → Bool
is_same_grant g h = (g.from == h.from) && ((g.tag == h.tag) && (g.to == h.to))

-- a grant stands
abbrev pub stands : Delegation → Grant → Bool
stands a g = list_any (is_same_grant g) a.grants

-- each grant stands once
abbrev pub are_distinct : List Grant → Bool
are_distinct [] = true
are_distinct (g ∷ grants) = not (list_any (is_same_grant g) grants) && are_distinct grants

-- p holds t by a chain of at most so many steps: p made t, or a grant of t to p stands from one who holds t by a shorter
-- chain, or p holds a parent of t by a shorter chain
abbrev pub holds_in : List MadeTag → Delegation → ℕ → ℕ → ℕ → Bool
holds_in tags a zero p t = is_owner a p t
holds_in tags a (suc k) p t =
    is_owner a p t
    || (list_any (λ (g : Grant). ((g.tag == t) && (g.to == p)) && holds_in tags a k g.from t) a.grants
    || list_any (λ u. holds_in tags a k p u) (parents_of tags t))

-- p holds t by a finite chain
abbrev pub Holds : List MadeTag → Delegation → ℕ → ℕ → Type 0
Holds tags a p t = (k : ℕ) × (holds_in tags a k p t ≡ true)

-- as many steps as there are grants and tags: no chain needs more
abbrev pub steps_of : List MadeTag → Delegation → ℕ
steps_of tags a = length a.grants + length tags

-- p holds t
abbrev pub holds : List MadeTag → Delegation → ℕ → ℕ → Bool
holds tags a p t = holds_in tags a (steps_of tags a) p t

-- p holds each tag of a list
abbrev pub holds_all : List MadeTag → Delegation → ℕ → List ℕ → Bool
holds_all tags a p list = list_all (λ t. holds tags a p t) list

-- the next tag is made
abbrev pub owned : Delegation → ℕ → Delegation
owned a p = record a { owners = a.owners ++ p ∷ [] }

-- a tag is granted; a second equal grant changes nothing
abbrev pub granted : Delegation → Grant → Delegation
granted a g = if stands a g then a else record a { grants = a.grants ++ g ∷ [] }

-- the other grants
abbrev pub without : Grant → List Grant → List Grant
without g grants = filter (λ h. not (is_same_grant g h)) grants

-- a grant is taken away
abbrev pub revoked : Delegation → Grant → Delegation
revoked a g = record a { grants = without g a.grants }
