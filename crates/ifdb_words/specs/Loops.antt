-- decides: the command line
-- How a database is served, by the words of `host`.
use Rattle.std.specs.Prelude.{ℕ, List, [], ◌∷◌, Option, codes, option_and_then, option_map}
use Rattle.ifdb_words.specs.Numbers.{maybe_to, number_or}
use Rattle.ifdb_words.specs.Limit.{limit_of}
use Rattle.ifdb_words.specs.Serve.{port_of}
use Rattle.ifdb_words.specs.declared.loops.LoopService.{LoopService}
use Rattle.ifdb_words.specs.declared.loops.Patience.{Patience}

abbrev pub loop_names : List (List ℕ)
loop_names = codes "port" ∷ codes "loops" ∷ codes "connections" ∷ codes "limit" ∷ codes "hello" ∷ codes "idle" ∷ codes "stall" ∷ []

-- how many loops there are, from 1 to 64, if it is said
abbrev pub loops_of : (List ℕ → Option (List ℕ)) → Option (Option ℕ)
loops_of values = maybe_to 64 (values (codes "loops"))

-- how many connections are served at a time: from 1 to 1,000,000, where it isn't said 10,000
abbrev pub connections_of : (List ℕ → Option (List ℕ)) → Option ℕ
connections_of values = number_or 10000 1000000 (values (codes "connections"))

-- seconds, from one to those of a day: until the first line, between lines, and until some of a reply is taken
abbrev pub hello_of : (List ℕ → Option (List ℕ)) → Option ℕ
hello_of values = number_or 10 86400 (values (codes "hello"))

abbrev pub idle_of : (List ℕ → Option (List ℕ)) → Option ℕ
idle_of values = number_or 600 86400 (values (codes "idle"))

abbrev pub stall_of : (List ℕ → Option (List ℕ)) → Option ℕ
stall_of values = number_or 60 86400 (values (codes "stall"))

abbrev pub patience_of : (List ℕ → Option (List ℕ)) → Option Patience
patience_of values =
    option_and_then (λ hello. option_and_then (λ idle. option_map (λ stall. record { hello = hello; idle = idle; stall = stall })
    (stall_of values)) (idle_of values)) (hello_of values)

-- by the values of the options
abbrev pub loop_service_of : (List ℕ → Option (List ℕ)) → Option LoopService
loop_service_of values =
    option_and_then (λ port. option_and_then (λ loops. option_and_then (λ connections. option_and_then (λ limit. option_map (λ patience.
    record { port = port; loops = loops; connections = connections; limit = limit; patience = patience })
    (patience_of values)) (limit_of values)) (connections_of values)) (loops_of values)) (port_of values)
