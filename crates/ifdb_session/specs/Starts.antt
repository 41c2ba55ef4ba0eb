-- decides: the service
-- Where the history of a room begins.
use Rattle.std.specs.Prelude.{List}
use Rattle.ifdb_model.specs.Log.{Entry}
use Rattle.ifdb_db.specs.Reading.{read_line}
use Rattle.ifdb_history.specs.History.{Start}

-- over this log, where lines are read by the grammar
abbrev pub start_of : List Entry → Start
start_of log = record { read = read_line; log = log }
