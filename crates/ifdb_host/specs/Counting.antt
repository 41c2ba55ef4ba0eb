-- decides: a served database
-- What the service of a database writes when it is done.
use Rattle.std.specs.Prelude.{List, ℕ, ◌++◌, codes}
use Rattle.ifdb_service.specs.Summary.{numbered_line}
use Rattle.ifdb_session.specs.declared.counts.Counts.{Counts}

-- what was counted of the history
abbrev pub counts_text : Counts → List ℕ
counts_text c =
    numbered_line (codes "sessions") c.sessions
    ++ (numbered_line (codes "entries") c.entries
    ++ (numbered_line (codes "commits") c.commits
    ++ (numbered_line (codes "refused") c.refused ++ numbered_line (codes "rows") c.rows)))
