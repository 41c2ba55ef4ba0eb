-- What the session of a CALL is asked, line by line, and how far it gets.
use Rattle.std.specs.Prelude.{◌≡◌, ◌≢◌, ◌⊎◌, ℕ, zero, suc, ◌+◌, Bool, true, false, ◌&&◌, not, List, [], ◌∷◌, ◌++◌, length, map, Option, Some, None, Result, Ok, Err}
use Rattle.ifdb_wire.specs.declared.fault.Fault.{Fault}
use Rattle.ifdb_wire.specs.declared.fault.Fault.TheVariants as fault
use Rattle.ifdb_wire.specs.declared.reply.Reply.{Reply}
use Rattle.ifdb_wire.specs.declared.reply.Reply.TheVariants as reply
use Rattle.ifdb_wire.specs.Text.{reply_text}
use Rattle.ifdb_model.specs.Run.{State, session_of, Step, opens, asks, refused, next, outcome_of, run}
use Rattle.ifdb_db.specs.Reading.{read_line}
use Rattle.ifdb_db.specs.Room.{Hall, StandsFor, was_opened}
use Rattle.ifdb_closure.specs.Closures.{commit_line, is_refusal, memory_fault, Called, is_within, call_on, asked_of}
use Rattle.ifdb_closure.specs.Lacking.{Memory, enough, lacks, lacks_at, lacks_only, cut_steps}
use Rattle.ifdb_closure.specs.Speaking.{speech}

-- the reply to a line of session h
abbrev pub reply_at : ℕ → State → List ℕ → Reply
reply_at h st line = (outcome_of read_line st h line).reply

-- the state behind a line of session h, and behind some lines
abbrev pub after_line : ℕ → State → List ℕ → State
after_line h st line = next read_line st (asks h line)

abbrev pub after_lines : ℕ → State → List (List ℕ) → State
after_lines h st lines = run read_line st (map (asks h) lines)

-- the label of a session
abbrev pub label_of : State → ℕ → List ℕ
label_of st n = (session_of st n).label

-- none of these lines is refused, and each leaves the label within the caller's
abbrev pub all_pass : List ℕ → ℕ → State → List (List ℕ) → Bool
all_pass label h st [] = true
all_pass label h st (line ∷ lines) =
    not (is_refusal (reply_at h st line)) && (is_within label h (after_line h st line) && all_pass label h (after_line h st line) lines)

-- a line was asked, and passed
pub record Passed (new : Hall) (label : List ℕ) (h : ℕ) (st : State) (lines : List (List ℕ)) : Type 0 where
  pub pass : all_pass label h st lines ≡ true
  pub stands : StandsFor new (after_lines h st lines)

-- A line ended the call: there was no memory for it, it was refused, or its label isn't within the caller's.
pub data Stop (new : Hall) (label : List ℕ) (h : ℕ) (st : State) (line : List ℕ) : Fault → Type 0 where
  lacked : StandsFor new st → Stop new label h st line fault.OutOfMemory
  was_refused : (f : Fault) → StandsFor new (after_line h st line) → reply_at h st line ≡ reply.Refused f → Stop new label h st line f
  outside : StandsFor new (after_line h st line) → is_refusal (reply_at h st line) ≡ false → is_within label h (after_line h st line) ≡ false
      → Stop new label h st line fault.ClosureLabel

-- one of these lines ended the call
pub record Stopped (new : Hall) (label : List ℕ) (h : ℕ) (st : State) (lines : List (List ℕ)) (f : Fault) : Type 0 where
  pub front : List (List ℕ)
  pub line : List ℕ
  pub rest : List (List ℕ)
  pub all : lines ≡ front ++ line ∷ rest
  pub pass : all_pass label h st front ≡ true
  pub stop : Stop new label h (after_lines h st front) line f

-- ---- all lines, and the COMMIT

-- the flags of the lines and of the COMMIT, where all have their memory, or the one at this place has none
abbrev pub flags_of : Option ℕ → List Bool
flags_of None = []
flags_of (Some i) = lacks_only i

-- what session h is asked and its caller is told
abbrev pub called_on : List ℕ → ℕ → State → List (List ℕ) → Option ℕ → Called
called_on label h st lines lack = call_on speech label h st reply.Opened (flags_of lack) lines

-- the reply is that of an end: its text was put, or it is this refusal
abbrev pub Says : {T : Type 0} → ℕ → List ℕ → Result T Fault → Reply → Type 0
Says shown text (Ok x) r = text ≡ reply_text (Some shown) r
Says shown text (Err f) r = r ≡ reply.Refused f

-- want of memory is told
abbrev pub IsLackTold : Option ℕ → Reply → Type 0
IsLackTold None r = Unit {0}
IsLackTold (Some i) r = r ≡ memory_fault

-- session h was asked the lines, as far as it got
pub record AskedAll {T : Type 0} (new : Hall) (label : List ℕ) (h : ℕ) (st : State) (lines : List (List ℕ)) (shown : ℕ) (text : List ℕ) (end : Result T Fault) : Type 0 where
  pub lack : Option ℕ
  pub stands : StandsFor new (after_lines h st (called_on label h st lines lack).asked)
  pub says : Says shown text end (called_on label h st lines lack).told
  pub exact : IsLackTold lack (called_on label h st lines lack).told

-- the COMMIT ended the call: there was no memory for it, or it was refused
abbrev pub IsUncommitted : Hall → ℕ → State → Fault → Type 0
IsUncommitted new h st f = (StandsFor new st × (f ≡ fault.OutOfMemory))
    ⊎ (StandsFor new (after_line h st commit_line) × (reply_at h st commit_line ≡ reply.Refused f))

-- ---- the whole call

-- The steps that a call stands for, and what its caller is told, where its lines are these, with the memory that it has.
abbrev pub steps_with : List ℕ → State → List (List ℕ) → Memory → List Step
steps_with label st lines enough =
    opens ∷ asked_of (length st.sessions + 1) (called_on label (length st.sessions + 1) (next read_line st opens) lines None).asked
steps_with label st lines lacks = []
steps_with label st lines (lacks_at zero) = refused 0 ∷ []
steps_with label st lines (lacks_at (suc i)) =
    opens ∷ cut_steps (length st.sessions + 1) (called_on label (length st.sessions + 1) (next read_line st opens) lines (Some i))

abbrev pub told_with_memory : List ℕ → State → List (List ℕ) → Memory → Reply
told_with_memory label st lines enough = (called_on label (length st.sessions + 1) (next read_line st opens) lines None).told
told_with_memory label st lines lacks = memory_fault
told_with_memory label st lines (lacks_at zero) = memory_fault
told_with_memory label st lines (lacks_at (suc i)) = (called_on label (length st.sessions + 1) (next read_line st opens) lines (Some i)).told

-- want of memory is told
abbrev pub IsMemoryTold : Memory → Reply → Type 0
IsMemoryTold enough r = Unit {0}
IsMemoryTold _ r = r ≡ memory_fault

-- a call was made, as far as it got
pub record CallRan {T : Type 0} (new : Hall) (label : List ℕ) (st : State) (lines : List (List ℕ)) (shown : ℕ) (text : List ℕ) (end : Result T Fault) : Type 0 where
  pub memory : Memory
  pub stands : StandsFor new (run read_line st (steps_with label st lines memory))
  pub says : Says shown text end (told_with_memory label st lines memory)
  pub exact : IsMemoryTold memory (told_with_memory label st lines memory)

-- ---- a call in a room

-- the room stands for a state, and has the call's session and its caller, which are two
pub record IsCall (hall : Hall) (h caller : ℕ) : Type 0 where
  pub state : State
  pub stands : StandsFor hall state
  pub session_there : was_opened hall h ≡ true
  pub caller_there : was_opened hall caller ≡ true
  pub apart : caller ≢ h
