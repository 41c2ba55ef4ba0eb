-- decides: the command line
-- The options of a command, each with its value: `--name value` in two words, or `--name=value` in one.
use Rattle.std.specs.Prelude.{ℕ, ◌==◌, ◌&&◌, Bool, false, List, [], ◌∷◌, ◌++◌, Option, Some, None, option_and_then, option_map, if◌then◌else◌}
use Rattle.std.specs.List.{list_any, before_first, after_first}
use Rattle.std.specs.Str.{bytes_eq}

-- ---- one word

-- it begins with a hyphen (45)
abbrev pub is_hyphened : List ℕ → Bool
is_hyphened [] = false
is_hyphened (x ∷ word) = x == 45

-- the name, and what stands behind an `=` (61) if there is one
abbrev pub name_and_value : List ℕ → List ℕ × Option (List ℕ)
name_and_value text = (
  before_first (λ x. x == 61) text,
  if list_any (λ x. x == 61) text then Some (after_first (λ x. x == 61) text) else None,
)

-- what stands behind two hyphens, if anything does
abbrev pub option_in : List ℕ → Option (List ℕ × Option (List ℕ))
option_in [] = None
option_in (x ∷ []) = None
option_in (x ∷ y ∷ []) = None
option_in (x ∷ y ∷ z ∷ text) = if x == 45 && y == 45 then Some (name_and_value (z ∷ text)) else None

-- ---- all words

-- an option that is used, and its value
pub record Use : Type 0 where
  pub name : List ℕ
  pub text : List ℕ

abbrev pub is_used : List ℕ → List Use → Bool
is_used name uses = list_any (λ u. bytes_eq u.name name) uses

-- one use more, of an option that isn't used yet
abbrev pub with_use : List ℕ → List ℕ → List Use → Option (List Use)
with_use name text uses = if is_used name uses then None else Some (uses ++ record { name = name; text = text } ∷ [])

-- an option, used with the value behind its `=`; without one it waits for the next word
abbrev pub use_or_wait : List ℕ → Option (List ℕ) → List Use → Option (List Use × Option (List ℕ))
use_or_wait name None uses = Some (uses, Some name)
use_or_wait name (Some text) uses = option_map (λ more. (more, None)) (with_use name text uses)

module _ (names : List (List ℕ)) where
  abbrev pub is_name : List ℕ → Bool
  is_name name = list_any (λ n. bytes_eq n name) names

  -- a word that is an option of the command
  abbrev pub option_step : Option (List ℕ × Option (List ℕ)) → List Use → Option (List Use × Option (List ℕ))
  option_step None uses = None
  option_step (Some p) uses = if is_name p.0 then use_or_wait p.0 p.1 uses else None

  -- a word that is the value of an option
  abbrev pub value_step : List ℕ → List ℕ → List Use → Option (List Use × Option (List ℕ))
  value_step name word uses =
      if is_hyphened word then None else option_map (λ more. (more, None)) (with_use name word uses)

  -- one word, where an option waits for its value or none does
  abbrev pub step : List ℕ → Option (List ℕ) → List Use → Option (List Use × Option (List ℕ))
  step word None uses = option_step (option_in word) uses
  step word (Some name) uses = value_step name word uses

  -- the end, where no option waits
  abbrev pub at_end : Option (List ℕ) → List Use → Option (List Use)
  at_end None uses = Some uses
  at_end (Some name) uses = None

  -- the words that follow these uses
  abbrev pub uses_from : List (List ℕ) → Option (List ℕ) → List Use → Option (List Use)
  uses_from [] waiting uses = at_end waiting uses
  uses_from (word ∷ words) waiting uses = option_and_then (λ p. uses_from words p.1 p.0) (step word waiting uses)

  -- what the words use, in order, where they are options of these names, each at most once
  abbrev pub uses_of : List (List ℕ) → Option (List Use)
  uses_of words = uses_from words None []

-- the value of an option that is used
abbrev pub value_of : List ℕ → List Use → Option (List ℕ)
value_of name [] = None
value_of name (u ∷ uses) = if bytes_eq u.name name then Some u.text else value_of name uses

-- the values of all options, by their names
abbrev pub values_of : List Use → List ℕ → Option (List ℕ)
values_of uses name = value_of name uses
