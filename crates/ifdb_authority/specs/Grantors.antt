-- The grantors of each tag to each principal, kept beside the list of grants.
use Rattle.std.specs.Prelude.{◌≡◌, ℕ, Bool, Option, Some, None, List, [], ◌∷◌, ◌++◌, ◌==◌, ◌&&◌, not, filter, if◌then◌else◌, IsTrue}
use Rattle.std.specs.List.{list_any}
use Rattle.std.specs.Global.{Vec}
use Rattle.std.specs.HashMap.{get}
use Rattle.ifdb_label.specs.Ancestors.{has}
use Rattle.ifdb_authority.specs.declared.grant.Grant.{Grant}
use Rattle.ifdb_authority.specs.declared.holding.Holding.{Holding}
use Rattle.ifdb_authority.specs.declared.grantors.Grantors.{Grantors}
use Rattle.ifdb_authority.specs.Authority.{grant, is_same_grant, are_distinct}

-- a principal and a tag
abbrev pub holding : ℕ → ℕ → Holding
holding holder tag = record { holder = holder; tag = tag }

-- one principal and one tag
abbrev pub is_same_holding : Holding → Holding → Bool
is_same_holding h i = (h.holder == i.holder) && (h.tag == i.tag)

-- the grantors of a list, if there is one
abbrev pub listed : Option (Vec ℕ) → List ℕ
listed None = []
listed (Some grantors) = grantors.items

-- who granted the tag to the principal
abbrev pub grantors_of : Grantors → Holding → List ℕ
grantors_of g to = listed (get is_same_holding g.lists to)

-- one grantor more of that tag to that principal, and the others as before
abbrev pub IsGrantedMore : Grantors → Grantors → Holding → ℕ → Type 0
IsGrantedMore old new to from = (h : Holding) → grantors_of new h ≡ (if is_same_holding to h then grantors_of old h ++ from ∷ [] else grantors_of old h)

-- that grantor of that tag to that principal taken out, and the others as before
abbrev pub IsGrantedLess : Grantors → Grantors → Holding → ℕ → Type 0
IsGrantedLess old new to from = (h : Holding) → grantors_of new h ≡ (if is_same_holding to h then filter (λ p. not (p == from)) (grantors_of old h) else grantors_of old h)

-- all grantors as before
abbrev pub IsSameIndex : Grantors → Grantors → Type 0
IsSameIndex old new = (h : Holding) → grantors_of new h ≡ grantors_of old h

-- the grantors are those of the grants in the list
abbrev pub IsIndexOf : Grantors → List Grant → Type 0
IsIndexOf g grants = (from tag to : ℕ) → has (grantors_of g (holding to tag)) from ≡ list_any (is_same_grant (grant from tag to)) grants

-- each grant is in the list once, and the grantors are those of the list
pub record IsIndexed (g : Grantors) (grants : List Grant) : Type 0 where
  pub distinct : IsTrue (are_distinct grants)
  pub index : IsIndexOf g grants
