-- A verdict over what a store keeps, and over the log that it stands for.
use Rattle.std.specs.Prelude.{◌≡◌, ℕ, ◌≤◌, List, drop}
use Rattle.ifdb_label.specs.Tags.{MadeTag}
use Rattle.ifdb_row.specs.declared.write.Write.{Write}
use Rattle.ifdb_store.specs.Kept.{Kept, StandsFor, trimmed}
use Rattle.ifdb_row.specs.Verdict.{verdict, written_by}
use Rattle.ifdb_model.specs.Log.{Entry, content_of, written_of, stamped_from}

-- over each log that the store stands for with a floor that isn't above the BEGIN
abbrev pub JudgesALog : Type 0
JudgesALog = (tags : List MadeTag) (kept : Kept) (log : List Entry) (floor begin : ℕ) (own : List Write) (label : List ℕ)
    → StandsFor kept (stamped_from 0 log) floor → floor ≤ begin
    → verdict tags kept.rows (written_by (trimmed begin kept.commits)) own label
    ≡ verdict tags (content_of log) (written_of (drop begin log)) own label
