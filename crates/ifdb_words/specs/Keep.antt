-- decides: the command line
-- The words behind `keep`.
use Rattle.std.specs.Prelude.{ℕ, List, [], ◌∷◌, Option, Some, None, codes, option_and_then}
use Rattle.ifdb_words.specs.Options.{uses_of, values_of}
use Rattle.ifdb_words.specs.FileName.{file_in}
use Rattle.ifdb_words.specs.Limit.{limit_of}
use Rattle.ifdb_words.specs.declared.keep.Keep.{Keep}

abbrev pub keep_names : List (List ℕ)
keep_names = codes "file" ∷ codes "limit" ∷ []

abbrev pub keep_with : Option (List ℕ) → Option ℕ → Option Keep
keep_with None limit = None
keep_with (Some file) None = None
keep_with (Some file) (Some limit) = Some (record { file = file; limit = limit })

-- by the values of the options
abbrev pub keep_of : (List ℕ → Option (List ℕ)) → Option Keep
keep_of values = keep_with (file_in (values (codes "file"))) (limit_of values)

abbrev pub keep_in : List (List ℕ) → Option Keep
keep_in words = option_and_then (λ uses. keep_of (values_of uses)) (uses_of keep_names words)
