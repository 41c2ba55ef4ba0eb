-- decides: labels and authority
-- Tags: their kinds and parents, and which is below which. A tag is a number, the place at which it was made.
use Rattle.std.specs.Prelude.{ℕ, zero, suc, Bool, List, [], true, false, Option, Some, None, option_map, not, if◌then◌else◌, ◌==◌, ◌||◌, nat_lt, length, slice_get, slice_index_or, IsTrue}
use Rattle.std.specs.List.{list_all, list_any}
use Rattle.ifdb_label.specs.declared.tag.TagKind.{TagKind}
use Rattle.ifdb_label.specs.declared.tag.TagKind.TheVariants.{Plain, Compound}
use Rattle.ifdb_label.specs.declared.tag.TagFault.{TagFault}
use Rattle.ifdb_label.specs.declared.tag.TagFault.TheVariants.{UnknownTag, NotCompound}

-- what is known of a made tag
pub record MadeTag : Type 0 where
  pub kind : TagKind
  pub parents : List ℕ

abbrev pub made_tag : TagKind → List ℕ → MadeTag
made_tag kind parents = record { kind = kind; parents = parents }

-- a plain tag in no compound
abbrev pub lone_tag : MadeTag
lone_tag = made_tag Plain []

-- a made tag's kind
abbrev pub kind_of : List MadeTag → ℕ → Option TagKind
kind_of tags t = option_map (λ (made : MadeTag). made.kind) (slice_get tags t)

abbrev pub is_some_compound : Option TagKind → Bool
is_some_compound None = false
is_some_compound (Some Plain) = false
is_some_compound (Some Compound) = true

-- the compound tags that a tag was made in; none for a tag that isn't made
abbrev pub parents_of : List MadeTag → ℕ → List ℕ
parents_of tags t = (slice_index_or tags t lone_tag).parents

-- t is u, or some parent of t is below u, in so many turns
abbrev pub below_in : List MadeTag → ℕ → ℕ → ℕ → Bool
below_in tags zero t u = t == u
below_in tags (suc n) t u = (t == u) || list_any (λ p. below_in tags n p u) (parents_of tags t)

-- t is u, or some parent of t is below u: parents have smaller numbers, so t turns serve
abbrev pub below : List MadeTag → ℕ → ℕ → Bool
below tags t u = below_in tags t t u

-- each tag of the list is made, where n tags are
abbrev pub are_made : ℕ → List ℕ → Bool
are_made n list = list_all (λ t. nat_lt t n) list

abbrev pub AreMade : ℕ → List ℕ → Type 0
AreMade n list = IsTrue (are_made n list)

-- each tag of the list is compound
abbrev pub are_compound : List MadeTag → List ℕ → Bool
are_compound tags list = list_all (λ t. is_some_compound (kind_of tags t)) list

-- why no tag is made with these parents, apart from want of memory
abbrev pub refusal : List MadeTag → List ℕ → Option TagFault
refusal tags parents =
    if not (are_made (length tags) parents) then Some UnknownTag else (if not (are_compound tags parents) then Some NotCompound else None)

-- each parent of a tag has a smaller number
pub record AreWellFormed (tags : List MadeTag) : Type 0 where
  pub older : (t : ℕ) → AreMade t (parents_of tags t)
