-- decides: a served database
-- What a session was told that is known to be kept.
use Rattle.std.specs.Prelude.{◌≡◌, ◌⊎◌, ℕ, true, List, [], ◌∷◌, ◌++◌}
use mathlib.Core.List.{IsPrefix}
use Rattle.ifdb_model.specs.Log.{Entry as LogEntry}
use Rattle.ifdb_history.specs.declared.entry.Entry.{Entry}
use Rattle.ifdb_history.specs.declared.entry.Note.{Note}
use Rattle.ifdb_history.specs.Lines.{IsToldWith}
use Rattle.ifdb_session.specs.Acknowledged.{answers}
use Rattle.ifdb_session.specs.Behind.{work_in}
use Rattle.ifdb_session.specs.Records.{texts_of}
use Rattle.ifdb_session.specs.Starts.{start_of}

-- a session was told these bytes, or more, by a history and the work behind it
pub record WasTold (first : List LogEntry) (h : List Entry) (n : ℕ) (work : List Note) (bytes : List ℕ) : Type 0 where
  pub all : List ℕ
  pub told : IsToldWith (start_of first) n h work all
  pub begins : IsPrefix bytes all

-- Of each turn that answered the session, what it was answered from is kept, or the session had been told these bytes before.
abbrev pub IsKeptFor : List LogEntry → (List (List ℕ) → Type 0) → List Entry → ℕ → List ℕ → Type 0
IsKeptFor first IsKept h n bytes = (before : List Entry) (e : Entry) → IsPrefix (before ++ e ∷ []) h → answers n e.kind ≡ true
    → IsKept (texts_of first (before ++ e ∷ [])) ⊎ WasTold first before n (work_in e.kind) bytes
