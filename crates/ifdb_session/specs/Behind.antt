-- decides: a served database
-- Turns that answer a session are taken behind all that it was told.
use Rattle.std.specs.Prelude.{◌≡◌, ◌⊎◌, ℕ, true, List, [], ◌∷◌, ◌++◌}
use mathlib.Core.List.{IsPrefix}
use Rattle.ifdb_model.specs.Log.{Entry as LogEntry}
use Rattle.ifdb_history.specs.declared.entry.Entry.{Entry}
use Rattle.ifdb_history.specs.declared.entry.Kind.{Kind}
use Rattle.ifdb_history.specs.declared.entry.Kind.TheVariants as kind
use Rattle.ifdb_history.specs.declared.entry.Note.{Note}
use Rattle.ifdb_history.specs.Lines.{IsToldWith}
use Rattle.ifdb_session.specs.declared.seat.Seat.{Seat}
use Rattle.ifdb_session.specs.Acknowledged.{answers}
use Rattle.ifdb_session.specs.Seats.{IsToldIn}
use Rattle.ifdb_session.specs.Starts.{start_of}

-- the work that a turn brings along
abbrev pub work_in : Kind → List Note
work_in kind.Opened = []
work_in (kind.Asked m work line) = work
work_in (kind.Looked m line) = []
work_in (kind.Refused m line) = []
work_in (kind.Left m work) = work

-- A turn of the second history that answers the session is one of the first, or was taken behind all that the session had been told.
pub record AnswersBehind (first : List LogEntry) (h k : List Entry) (s : Seat) : Type 0 where
  pub each : (before : List Entry) (e : Entry) → IsPrefix (before ++ e ∷ []) k → answers s.number e.kind ≡ true
      → IsPrefix (before ++ e ∷ []) h ⊎ ((text : List ℕ) → IsToldIn first h s text → IsToldWith (start_of first) s.number before (work_in e.kind) text)
