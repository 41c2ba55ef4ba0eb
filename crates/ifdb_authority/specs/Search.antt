-- The search for one who made a tag, back from one who may hold it.
use Rattle.std.specs.Prelude.{◌≡◌, ℕ, Bool, List, ◌==◌, ◌&&◌, ◌||◌, length, take, IsTrue}
use Rattle.std.specs.List.{list_any, list_all}
use Rattle.ifdb_label.specs.Tags.{MadeTag, below}
use Rattle.ifdb_label.specs.Ancestors.{has}
use Rattle.ifdb_authority.specs.declared.holding.Holding.{Holding}
use Rattle.ifdb_authority.specs.Authority.{Delegation, grant, stands, holds}
use Rattle.ifdb_authority.specs.Grantors.{is_same_holding}

-- the holding is in the list
abbrev pub is_found : List Holding → Holding → Bool
is_found list h = list_any (is_same_holding h) list

-- who holds h holds the tag that the other grants on: a grant of it stands
abbrev pub is_grantor : Delegation → Holding → Holding → Bool
is_grantor a to h = (h.tag == to.tag) && stands a (grant h.holder to.tag to.holder)

-- the same principal with a tag of the list that the other's tag is below
abbrev pub is_above : List MadeTag → List ℕ → Holding → Holding → Bool
is_above tags above of h = (h.holder == of.holder) && (has above h.tag && below tags of.tag h.tag)

-- one step back: a grantor, or the same principal with a tag above
abbrev pub leads : List MadeTag → Delegation → List ℕ → Holding → Holding → Bool
leads tags a above to h = is_grantor a to h || is_above tags above to h

-- the old list, and behind it those that pass and weren't in it
pub record IsExtended (old new : List Holding) (passes : Holding → Bool) : Type 0 where
  pub kept : take (length old) new ≡ old
  pub members : (h : Holding) → is_found new h ≡ is_found old h || passes h

-- the tag is below each of the list
abbrev pub AreAbove : List MadeTag → ℕ → List ℕ → Type 0
AreAbove tags t above = IsTrue (list_all (λ u. below tags t u) above)

-- the list has each tag that the tag is below, itself apart
abbrev pub HasAbove : List MadeTag → ℕ → List ℕ → Type 0
HasAbove tags t above = (u : ℕ) → IsTrue (below tags t u) → IsTrue ((u == t) || has above u)

-- what a search by these tags above answers: only what is so, and all that is so where the list has all tags above
pub record IsAnswer (tags : List MadeTag) (a : Delegation) (p t : ℕ) (above : List ℕ) (held : Bool) : Type 0 where
  pub sound : IsTrue held → IsTrue (holds tags a p t)
  pub complete : HasAbove tags t above → IsTrue (holds tags a p t) → IsTrue held
