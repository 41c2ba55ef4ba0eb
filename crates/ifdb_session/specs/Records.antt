-- decides: the service
-- What is recorded of a history.
use Rattle.std.specs.Prelude.{ℕ, ◌<◌, ◌≤◌, List, ◌++◌, length, option_to_list}
use Rattle.ifdb_redo.specs.declared.record.RedoRecord.{RedoRecord}
use Rattle.ifdb_model.specs.Log.{Entry as LogEntry}
use Rattle.ifdb_restore.specs.Redone.{records}
use Rattle.ifdb_db.specs.Noting.{Noted}
use Rattle.ifdb_db.specs.Reading.{read_line}
use Rattle.ifdb_history.specs.declared.entry.Entry.{Entry}
use Rattle.ifdb_history.specs.History.{first_state, flat}
use Rattle.ifdb_session.specs.declared.records.Records as recorder
use Rattle.ifdb_session.specs.Starts.{start_of}
use Rattle.ifdb_session.specs.Texts.{texts_for}

-- the records of a history's steps, in their order, and their texts
abbrev pub records_of : List LogEntry → List Entry → List RedoRecord
records_of first h = records read_line (first_state (start_of first)) (flat h)

abbrev pub texts_of : List LogEntry → List Entry → List (List ℕ)
texts_of first h = texts_for (records_of first h)

-- the record that a note holds, if it holds one
abbrev pub records_in : Noted → List RedoRecord
records_in note = option_to_list note.held

module _ {Q : Type 0} (recorders : recorder.Ghosts Q) where
  -- there is room for each text of at most so many bytes, but an empty one
  abbrev pub HasRoom : Q → ℕ → Type 0
  HasRoom q limit = (text : List ℕ) → 0 < length text → length text ≤ limit → recorders.fits q text

  -- nothing is kept: any more records may be said to be recorded
  abbrev pub Forgets : Q → Type 0
  Forgets q = (rs more : List RedoRecord) → recorders.has q rs → recorders.has q (rs ++ more)
