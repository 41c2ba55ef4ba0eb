-- decides: the service
-- What a session asked in a history, and what it was told.
use Rattle.std.specs.Prelude.{◌≡◌, ◌⊎◌, ℕ, ◌==◌, List, [], ◌∷◌, ◌++◌, flat_map, map, None, if◌then◌else◌}
use Rattle.ifdb_wire.specs.Text.{reply_text}
use Rattle.ifdb_model.specs.Step.{Reader}
use Rattle.ifdb_model.specs.Run.{State, Step, Told, asks, refused, run, replies}
use Rattle.ifdb_history.specs.declared.entry.Entry.{Entry}
use Rattle.ifdb_history.specs.declared.entry.Kind.{Kind}
use Rattle.ifdb_history.specs.declared.entry.Kind.TheVariants as kind
use Rattle.ifdb_history.specs.declared.entry.Note.{Note}
use Rattle.ifdb_history.specs.History.{Start, first_state, work_steps, steps_of, after}

-- the lines of the work of a transaction
abbrev pub work_lines : List Note → List (List ℕ)
work_lines work = map (λ (w : Note). w.line) work

-- the lines that a turn asked, if it was of the session
abbrev pub lines_at : ℕ → Kind → List (List ℕ)
lines_at n kind.Opened = []
lines_at n (kind.Asked m work line) = if m == n then work_lines work ++ line ∷ [] else []
lines_at n (kind.Looked m line) = if m == n then line ∷ [] else []
lines_at n (kind.Refused m line) = if m == n then line ∷ [] else []
lines_at n (kind.Left m work) = if m == n then work_lines work else []

-- the lines that the session asked
abbrev pub lines_of : ℕ → List Entry → List (List ℕ)
lines_of n [] = []
lines_of n (e ∷ h) = lines_at n e.kind ++ lines_of n h

-- the text of a reply, if it is told to the session; on a connection it has no number
abbrev pub text_to : ℕ → Told → List ℕ
text_to n t = if t.number == n then reply_text None t.reply else []

-- what some steps tell the session
abbrev pub told_in : Reader → ℕ → State → List Step → List ℕ
told_in read n st steps = flat_map (text_to n) (replies read st steps)

-- A turn tells the session this; a connection isn't told that its session was opened. A look is answered after its turn, and
-- there may be no memory for the answer.
abbrev pub Tells : Reader → ℕ → State → Kind → List ℕ → Type 0
Tells read n st kind.Opened text = text ≡ []
Tells read n st (kind.Looked m line) text = (text ≡ told_in read n st (asks m line ∷ [])) ⊎ (text ≡ told_in read n st (refused m ∷ []))
Tells read n st (kind.Asked m work line) text = text ≡ told_in read n st (steps_of (kind.Asked m work line))
Tells read n st (kind.Refused m line) text = text ≡ told_in read n st (steps_of (kind.Refused m line))
Tells read n st (kind.Left m work) text = text ≡ told_in read n st (steps_of (kind.Left m work))

-- turns from a state on tell it this, one after another
abbrev pub AllTell : Reader → ℕ → State → List Entry → List ℕ → Type 0
AllTell read n st [] text = text ≡ []
AllTell read n st (e ∷ h) text =
    (first : List ℕ) × (rest : List ℕ) × (text ≡ first ++ rest)
    × Tells read n st e.kind first × AllTell read n (run read st (steps_of e.kind)) h rest

-- and a history does
abbrev pub IsTold : Start → ℕ → List Entry → List ℕ → Type 0
IsTold start n h text = AllTell start.read n (first_state start) h text

-- ---- with lines that no turn has brought along yet

-- the lines that the session asked in the history, and those of this work behind them
abbrev pub lines_with : ℕ → List Entry → List Note → List (List ℕ)
lines_with n h work = lines_of n h ++ work_lines work

-- and it was told this
abbrev pub IsToldWith : Start → ℕ → List Entry → List Note → List ℕ → Type 0
IsToldWith start n h work text =
    (before : List ℕ) × IsTold start n h before × (text ≡ before ++ told_in start.read n (after start h) (work_steps n work))
