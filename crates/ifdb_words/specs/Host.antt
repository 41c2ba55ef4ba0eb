-- decides: the command line
-- The words behind `host`.
use Rattle.std.specs.Prelude.{ℕ, List, ◌∷◌, Option, codes, option_and_then, option_map}
use Rattle.ifdb_words.specs.Options.{uses_of, values_of}
use Rattle.ifdb_words.specs.FileName.{file_in}
use Rattle.ifdb_words.specs.Loops.{loop_names, loop_service_of}
use Rattle.ifdb_words.specs.declared.host.Hosting.{Hosting}

abbrev pub host_names : List (List ℕ)
host_names = codes "file" ∷ codes "admin-key" ∷ loop_names

-- by the values of the options
abbrev pub host_of : (List ℕ → Option (List ℕ)) → Option Hosting
host_of values =
    option_and_then (λ file. option_and_then (λ key_file. option_map (λ service. record { file = file; key_file = key_file; service = service })
    (loop_service_of values)) (file_in (values (codes "admin-key")))) (file_in (values (codes "file")))

abbrev pub host_in : List (List ℕ) → Option Hosting
host_in words = option_and_then (λ uses. host_of (values_of uses)) (uses_of host_names words)
