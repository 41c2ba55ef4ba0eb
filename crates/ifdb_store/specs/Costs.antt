-- What searches cost. A search that made s comparisons is said to cost 2 ^ s.
use Rattle.std.specs.Prelude.{◌≡◌, ℕ, List, ◌+◌, ◌-◌, ◌*◌, ◌<◌, ◌≤◌, length, get_or}
use Rattle.ifdb_row.specs.declared.row.Row.{Row}
use Rattle.ifdb_store.specs.Pages.{branch_rows, flat, limb_rows}

-- a search in a page costs no more than this
abbrev pub PageBounds : List Row → ℕ → Type 0
PageBounds rows cost = cost ≤ 2 * length rows + 1

-- a search among some parts, and then in one of them
pub record SearchedIn {X : Type 0} (bounds : X → ℕ → Type 0) (parts : List X) (cost : ℕ) : Type 0 where
  pub part : X
  pub place : ℕ
  pub there : place < length parts
  pub is : part ≡ get_or parts place part
  pub inside : ℕ
  pub bounded : bounds part inside
  pub product : cost ≤ (2 * (length parts - 1) + 1) * inside

-- a search in a twig costs no more than the square of its rows and 1
pub record TwigBounds (pages : List (List Row)) (cost : ℕ) : Type 0 where
  pub square : cost ≤ (length (flat pages) + 1) * (length (flat pages) + 1)
  pub most : cost ≤ 8127

-- one in a branch no more than three times and a third of that
pub record BranchBounds (twigs : List (List (List Row))) (cost : ℕ) : Type 0 where
  pub square : 3 * cost ≤ 10 * ((length (branch_rows twigs) + 1) * (length (branch_rows twigs) + 1))
  pub most : cost ≤ 512001

-- and one in a limb no more than three times and four fifths of it
pub record LimbBounds (branches : List (List (List (List Row)))) (cost : ℕ) : Type 0 where
  pub square : 5 * cost ≤ 19 * ((length (limb_rows branches) + 1) * (length (limb_rows branches) + 1))
  pub most : cost ≤ 32256063
