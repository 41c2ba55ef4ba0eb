-- The tags above each made tag, kept with it.
use Rattle.std.specs.Prelude.{◌≡◌, ℕ, Bool, List, [], ◌==◌, ◌||◌, map, slice_index_or}
use Rattle.std.specs.List.{list_any}
use Rattle.ifdb_label.specs.Tags.{MadeTag, lone_tag, below, AreWellFormed}

-- a made tag, with the tags that it is below, itself apart
pub record TracedTag : Type 0 where
  pub made : MadeTag
  pub ancestors : List ℕ

abbrev pub lone_traced : TracedTag
lone_traced = record { made = lone_tag; ancestors = [] }

abbrev pub made_of : List TracedTag → List MadeTag
made_of traced = map (λ (t : TracedTag). t.made) traced

abbrev pub ancestors_of : List TracedTag → ℕ → List ℕ
ancestors_of traced t = (slice_index_or traced t lone_traced).ancestors

-- the tag is in the list
abbrev pub has : List ℕ → ℕ → Bool
has list u = list_any (λ t. t == u) list

-- the list has what some of the parents is below
abbrev pub HasAbove : List MadeTag → List ℕ → List ℕ → Type 0
HasAbove tags parents list = (u : ℕ) → has list u ≡ list_any (λ p. below tags p u) parents

-- the list has what the tag is below, itself apart
abbrev pub HasAncestors : List MadeTag → ℕ → List ℕ → Type 0
HasAncestors tags t list = (u : ℕ) → ((t == u) || has list u) ≡ below tags t u

-- the ancestors that are kept are those that the parents give
pub record AreTraced (traced : List TracedTag) : Type 0 where
  pub well_formed : AreWellFormed (made_of traced)
  pub ancestors : (t : ℕ) → HasAncestors (made_of traced) t (ancestors_of traced t)
