-- Recorded entries that are made again.
use Rattle.std.specs.Prelude.{◌≡◌, ℕ, Bool, ◌&&◌, List, [], ◌∷◌, Option, Some, None, if◌then◌else◌}
use Rattle.ifdb_row.specs.declared.write.Write.{Write}
use Rattle.ifdb_redo.specs.declared.record.RedoRecord.{RedoRecord}
use Rattle.ifdb_redo.specs.declared.record.RedoRecord.TheVariants as redo
use Rattle.ifdb_bound.specs.declared.request.Change.{Change}
use Rattle.ifdb_syntax.specs.declared.request.Request.{Request}
use Rattle.ifdb_catalog.specs.Public.{Public}
use Rattle.ifdb_catalog.specs.Binding.{bound}
use Rattle.ifdb_model.specs.Log.{Entry, commits}
use Rattle.ifdb_model.specs.Session.{Seen}
use Rattle.ifdb_model.specs.Step.{publish}
use Rattle.ifdb_model.specs.Run.{State}
use Rattle.ifdb_restore.specs.Redone.{change_of, entry_if, restored}
use Rattle.ifdb_restore.specs.Passing.{commit_fits}
use Rattle.ifdb_snapshot.specs.Writing.{are_fit}
use Rattle.ifdb_db.specs.Answer.{answered}
use Rattle.ifdb_db.specs.Client.{Client, client_of, session_at, standing}
use Rattle.ifdb_db.specs.Desk.{Desk}
use Rattle.ifdb_db.specs.Kept.{keeps_parents}
use Rattle.ifdb_db.specs.Room.{Hall, StandsFor}
use Rattle.ifdb_db.specs.Reading.{read_line}

-- writes fit what all see: each label is of made tags, each row fits its table, and after them each row's parents stand
abbrev pub writes_fit : Seen → List Write → Bool
writes_fit x ws = are_fit x.public ws && keeps_parents x.rows ws

-- a client of a principal that stands outside transactions at the empty label, under no ceiling
abbrev pub idle_client : ℕ → Client
idle_client asker = client_of (standing asker None []) None

-- the public change that a principal's request makes, if it makes one
abbrev pub change_by : Public → ℕ → Request → Option Change
change_by p asker r = change_of (publish p (session_at (idle_client asker)) (bound p asker r)).added

-- the entry that a record makes at a desk, if it fits: the public change that the asker's line makes, or the commit of the writes
abbrev pub entry_at : Desk → RedoRecord → Option Entry
entry_at d (redo.Change asker line) = entry_if (change_of (answered d (idle_client asker) (read_line line)).added)
entry_at d (redo.Commit ws) = if writes_fit d.seen ws then Some (commits ws) else None

-- ---- rooms that stand for a log

-- a log of which nobody's session is open
abbrev pub closed_state : List Entry → State
closed_state log = record { log = log; sessions = [] }

-- whatever log a room stood for, it came to stand for the one that a record restores behind it
abbrev pub IsMadeAgain : Hall → Hall → RedoRecord → Type 0
IsMadeAgain h k r = (log : List Entry) → StandsFor h (closed_state log)
    → (more : List Entry) × (restored read_line commit_fits log (r ∷ []) ≡ Some more) × StandsFor k (closed_state more)

-- whatever log a room stands for, a record restores none behind it
abbrev pub IsUnfit : Hall → RedoRecord → Type 0
IsUnfit h r = (log : List Entry) → StandsFor h (closed_state log) → restored read_line commit_fits log (r ∷ []) ≡ None
