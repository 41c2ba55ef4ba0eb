-- decides: a served database
-- Sessions that are over, in a history.
use Rattle.std.specs.Prelude.{◌≡◌, ℕ, Bool, true, false, List}
use mathlib.Core.List.{IsPrefix}
use Rattle.ifdb_model.specs.Log.{Entry as LogEntry}
use Rattle.ifdb_history.specs.declared.entry.Entry.{Entry}
use Rattle.ifdb_history.specs.History.{after, IsShut}
use Rattle.ifdb_history.specs.Lines.{lines_of, IsTold}
use Rattle.ifdb_loop.specs.Dialogues.{Dialogue}
use Rattle.ifdb_session.specs.Closings.{EndsInBye, HasLeft}
use Rattle.ifdb_session.specs.Starts.{start_of}
use Rattle.ifdb_desk.specs.Kept.{IsKeptFor}

-- an open session has left, and another was closed by its last line
abbrev pub IsClosedSo : ℕ → List Entry → List (List ℕ) → Bool → Type 0
IsClosedSo n h lines true = HasLeft n h
IsClosedSo n h lines false = EndsInBye n h lines

-- a session is over, and was asked and told this
pub record IsOver (first : List LogEntry) (IsKept : List (List ℕ) → Type 0) (h : List Entry) (n : ℕ) (d : Dialogue) : Type 0 where
  pub shut : IsShut (after (start_of first) h) n
  pub closed : IsClosedSo n h d.lines d.is_open
  pub lines : lines_of n h ≡ d.lines
  pub texts : IsTold (start_of first) n h d.texts
  pub front : IsPrefix d.kept d.texts
  pub kept : IsKeptFor first IsKept h n d.kept
