-- decides: the command line
-- How many bytes are taken.
use Rattle.std.specs.Prelude.{ℕ, ◌^◌, List, [], ◌∷◌, Option, codes, option_and_then}
use Rattle.ifdb_words.specs.Numbers.{number_or}
use Rattle.ifdb_words.specs.Options.{uses_of, values_of}

-- by the values of the options: from 1 to 2^40, where it isn't said 2^30
abbrev pub limit_of : (List ℕ → Option (List ℕ)) → Option ℕ
limit_of values = number_or (2 ^ 30) (2 ^ 40) (values (codes "limit"))

abbrev pub limit_names : List (List ℕ)
limit_names = codes "limit" ∷ []

-- by words that have no other option
abbrev pub limit_in : List (List ℕ) → Option ℕ
limit_in words = option_and_then (λ uses. limit_of (values_of uses)) (uses_of limit_names words)
