-- What the shared room stands for.
use Rattle.std.specs.Prelude.{◌≡◌, ℕ, List, length}
use Rattle.ifdb_db.specs.Room.{StandsFor}
use Rattle.ifdb_history.specs.declared.entry.Entry.{Entry}
use Rattle.ifdb_history.specs.Counts.{commits_in, refusals_in}
use Rattle.ifdb_history.specs.History.{after}
use Rattle.ifdb_session.specs.declared.records.Records as recorder
use Rattle.ifdb_session.specs.declared.shared.SharedRoom.{SharedRoom}
use Rattle.ifdb_session.specs.Endings.{capped}
use Rattle.ifdb_session.specs.Records.{records_of}
use Rattle.ifdb_session.specs.Starts.{start_of}

-- its room is that of the state after the history, its counts are the history's, and the records of the history's steps were made
pub record StandsForHistory {Q : Type 0} (recorders : recorder.Ghosts Q) (shared : SharedRoom Q) (h : List Entry) : Type 0 where
  pub room : StandsFor shared.room (after (start_of recorders.first) h)
  pub entries : shared.entries ≡ capped (length h)
  pub commits : shared.commits ≡ capped (commits_in (start_of recorders.first) h)
  pub refused : shared.refused ≡ capped (refusals_in (start_of recorders.first) h)
  pub recorded : recorders.has shared.records (records_of recorders.first h)

-- the place where an entry's session was opened
abbrev pub root_of : Entry → ℕ
root_of e = e.root
