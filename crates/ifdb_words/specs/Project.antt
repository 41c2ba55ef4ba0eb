-- decides: the command line
-- The words behind `project`.
use Rattle.std.specs.Prelude.{ℕ, List, [], ◌∷◌, Option, Some, None, codes, option_and_then}
use Rattle.ifdb_words.specs.Options.{uses_of, values_of}
use Rattle.ifdb_words.specs.Level.{level_of}
use Rattle.ifdb_words.specs.Limit.{limit_of}
use Rattle.ifdb_words.specs.declared.project.Project.{Project}

abbrev pub project_names : List (List ℕ)
project_names = codes "tags" ∷ codes "limit" ∷ []

abbrev pub project_with : Option (List ℕ) → Option ℕ → Option Project
project_with None limit = None
project_with (Some level) None = None
project_with (Some level) (Some limit) = Some (record { level = level; limit = limit })

-- by the values of the options
abbrev pub project_of : (List ℕ → Option (List ℕ)) → Option Project
project_of values = project_with (option_and_then level_of (values (codes "tags"))) (limit_of values)

abbrev pub project_in : List (List ℕ) → Option Project
project_in words = option_and_then (λ uses. project_of (values_of uses)) (uses_of project_names words)
