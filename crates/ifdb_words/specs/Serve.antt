-- decides: the command line
-- The words behind `serve`.
use Rattle.std.specs.Prelude.{ℕ, List, [], ◌∷◌, Option, Some, None, codes, option_and_then, option_map}
use Rattle.ifdb_words.specs.Options.{uses_of, values_of}
use Rattle.ifdb_words.specs.Numbers.{needed_to, number_or}
use Rattle.ifdb_words.specs.Limit.{limit_of}
use Rattle.ifdb_words.specs.declared.command.Command.{Command}
use Rattle.ifdb_words.specs.declared.command.Command.TheVariants.{Serve}
use Rattle.ifdb_words.specs.declared.service.Service.{Service}

abbrev pub serve_names : List (List ℕ)
serve_names = codes "port" ∷ codes "workers" ∷ codes "links" ∷ codes "limit" ∷ []

abbrev pub service_with : Option ℕ → Option ℕ → Option ℕ → Option ℕ → Option Service
service_with None workers links limit = None
service_with (Some port) None links limit = None
service_with (Some port) (Some workers) None limit = None
service_with (Some port) (Some workers) (Some links) None = None
service_with (Some port) (Some workers) (Some links) (Some limit) =
    Some (record { port = port; workers = workers; links = links; limit = limit })

abbrev pub port_of : (List ℕ → Option (List ℕ)) → Option ℕ
port_of values = needed_to 65535 (values (codes "port"))

abbrev pub workers_of : (List ℕ → Option (List ℕ)) → Option ℕ
workers_of values = number_or 4 64 (values (codes "workers"))

abbrev pub links_of : (List ℕ → Option (List ℕ)) → Option ℕ
links_of values = number_or 1000000 1000000 (values (codes "links"))

-- by the values of the options
abbrev pub service_of : (List ℕ → Option (List ℕ)) → Option Service
service_of values = service_with (port_of values) (workers_of values) (links_of values) (limit_of values)

abbrev pub serve_of : (List ℕ → Option (List ℕ)) → Option Command
serve_of values = option_map Serve (service_of values)

abbrev pub serve_in : List (List ℕ) → Option Command
serve_in words = option_and_then (λ uses. serve_of (values_of uses)) (uses_of serve_names words)
