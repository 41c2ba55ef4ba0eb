-- decides: the service
-- What a service writes to its output.
use Rattle.std.specs.Prelude.{ℕ, List, ◌++◌, codes, decimal}
use Rattle.ifdb_session.specs.declared.counts.Counts.{Counts}

-- a name, a space and a number, on a line
abbrev pub numbered_line : List ℕ → ℕ → List ℕ
numbered_line name n = name ++ (codes " " ++ (decimal n ++ codes "\n"))

-- what says that connections may come through a port
abbrev pub listening_line : ℕ → List ℕ
listening_line port = numbered_line (codes "LISTENING") port

-- what was counted of the history, and the faults
abbrev pub summary_text : Counts → ℕ → List ℕ
summary_text c faults =
    numbered_line (codes "sessions") c.sessions
    ++ (numbered_line (codes "entries") c.entries
    ++ (numbered_line (codes "commits") c.commits
    ++ (numbered_line (codes "refused") c.refused
    ++ (numbered_line (codes "rows") c.rows ++ numbered_line (codes "faults") faults))))
