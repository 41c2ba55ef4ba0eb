-- decides: a served database
-- How a database is to be served, by the words.
use Rattle.std.specs.Prelude.{ℕ, ◌/◌, min, max, unwrap_or}
use Rattle.ifdb_words.specs.declared.loops.LoopService.{LoopService}

-- as many loops as are asked for, or as there are processors, from 1 to 64, and no more than connections
abbrev pub loops_in : LoopService → ℕ → ℕ
loops_in service processors = min (unwrap_or service.loops (max (min processors 64) 1)) service.connections

-- how many connections each of so many loops serves at a time
abbrev pub share_of : LoopService → ℕ → ℕ
share_of service loops = service.connections / loops
