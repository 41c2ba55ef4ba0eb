-- decides: the command line
-- The words behind a command whose one option is `--file`.
use Rattle.std.specs.Prelude.{ℕ, List, [], ◌∷◌, Option, codes, option_and_then}
use Rattle.ifdb_words.specs.Options.{uses_of, values_of}
use Rattle.ifdb_words.specs.FileName.{file_in}

abbrev pub one_file_names : List (List ℕ)
one_file_names = codes "file" ∷ []

-- by the values of the options
abbrev pub one_file_of : (List ℕ → Option (List ℕ)) → Option (List ℕ)
one_file_of values = file_in (values (codes "file"))

abbrev pub one_file_in : List (List ℕ) → Option (List ℕ)
one_file_in words = option_and_then (λ uses. one_file_of (values_of uses)) (uses_of one_file_names words)
