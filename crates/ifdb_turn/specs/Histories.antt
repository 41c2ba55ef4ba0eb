-- decides: the service
-- Histories: lists of entries, the oldest first.
use Rattle.std.specs.Prelude.{◌≡◌, ℕ, ◌≤◌, nat_lt, if◌then◌else◌, List, [], ◌∷◌, ◌++◌, length}
use mathlib.Core.List.{IsPrefix}
use mathlib.Core.Option.{some}
use lib.ListN.{get_elem?}
use Rattle.ifdb_turn.specs.Places.{times}

module _ {E : Type 0} where
  -- each entry is right after those before it
  abbrev pub AllRight : (List E → E → Type 0) → List E → Type 0
  AllRight right history =
      (before : List E) (entry : E) → IsPrefix (before ++ entry ∷ []) history → right before entry

  -- no entry from the place `from` on has its root among the places of a list
  abbrev pub NoRootsFrom : (E → ℕ) → List E → ℕ → List ℕ → Type 0
  NoRootsFrom root history from places =
      (k : ℕ) (entry : E) → from ≤ k → get_elem? history k ≡ some entry → times (root entry) places ≡ 0

  -- of two histories the longer, or the first
  abbrev pub longer : List E → List E → List E
  longer xs ys = if nat_lt (length xs) (length ys) then ys else xs

  -- of two histories the shorter, or the second
  abbrev pub shorter : List E → List E → List E
  shorter xs ys = if nat_lt (length xs) (length ys) then xs else ys
