-- The label that SET LABEL gives a session.
use Rattle.std.specs.Prelude.{◌≡◌, List, ℕ, Option, Some, None}
use Rattle.ifdb_model.specs.Session.{Session}

-- the session has this ceiling and this label
abbrev pub IsAt : Option (List ℕ) → List ℕ → Session → Type 0
IsAt ceiling label s = (s.ceiling ≡ ceiling) × (s.label ≡ label)

-- the session with a new label, if it gets one
abbrev pub with_label : Session → Option (List ℕ) → Session
with_label s None = s
with_label s (Some label) = record s { label = label }
