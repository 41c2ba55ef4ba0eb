-- Where the check of a trace stands, and what a line does to it.
use Rattle.std.specs.Prelude.{◌≡◌, ◌⊎◌, ℕ, ◌<◌, Bool, false, List, [], ◌∷◌, ◌++◌, length, None, Some}
use Rattle.std.specs.List.{list_all}
use Rattle.ifdb_wire.specs.Script.{IsSessionNumber}
use Rattle.ifdb_model.specs.Run.{State, opens, asks}
use Rattle.ifdb_db.specs.Reading.{read_line}
use Rattle.ifdb_db.specs.Room.{StandsFor}
use Rattle.ifdb_trace.specs.declared.check.TraceEnd.{TraceEnd}
use Rattle.ifdb_trace.specs.declared.check.TraceEnd.TheVariants as trace
use Rattle.ifdb_trace.specs.declared.checker.Stage.{Stage}
use Rattle.ifdb_trace.specs.declared.checker.Stage.TheVariants as stage
use Rattle.ifdb_trace.specs.declared.checker.Checker.{Checker}
use Rattle.ifdb_trace.specs.declared.checker.Marked.{Marked}
use Rattle.ifdb_trace.specs.declared.checker.Marked.TheVariants as marked
use Rattle.ifdb_trace.specs.Accepted.{asked_mark, told_mark, recorded_lines, is_short}
use Rattle.ifdb_trace.specs.Checking.{Due, dues, behind, is_over, fault_behind}

-- the line stands behind its mark, if it has one
abbrev pub IsMarked : List ℕ → Marked → Type 0
IsMarked line (marked.Asked text) = line ≡ asked_mark ++ text.now
IsMarked line (marked.Told text) = line ≡ told_mark ++ text.now
IsMarked line marked.Other = ((text : List ℕ) → line ≡ asked_mark ++ text → ⊥) × ((text : List ℕ) → line ≡ told_mark ++ text → ⊥)

-- what may come next, over a state: the rest of a reply, or both ways of a step that the room hasn't taken
abbrev pub dues_at : Stage → List ℕ → List ℕ → State → List Due
dues_at stage.Telling reply request st = record { lines = recorded_lines reply; state = st } ∷ []
dues_at stage.Opening reply request st = dues read_line st (opens ∷ [])
dues_at (stage.Asking n) reply request st = dues read_line st (asks n request ∷ [])

-- the session that asks has a number
abbrev pub IsNumberedStage : Stage → Type 0
IsNumberedStage stage.Telling = Unit {0}
IsNumberedStage stage.Opening = Unit {0}
IsNumberedStage (stage.Asking n) = IsSessionNumber n

-- the check stands where this may come next
pub record IsAt (c : Checker) (all : List Due) : Type 0 where
  pub state : State
  pub stands : StandsFor c.room state
  pub dues_are : all ≡ dues_at c.stage c.reply c.request.items state
  pub numbered : IsNumberedStage c.stage

-- a line came, and the check stands behind it
abbrev pub GoesOn : Checker → Checker → List ℕ → Type 0
GoesOn old new line = (all : List Due) → IsAt old all → IsAt new (behind read_line line all)

-- nothing accepted goes on with this line
abbrev pub IsWrong : Checker → List ℕ → Type 0
IsWrong old line = (all : List Due) → IsAt old all → behind read_line line all ≡ []

-- a trace can't have this reply, or doesn't go on with this line of it
abbrev pub IsWrongFirst : Checker → List ℕ → Type 0
IsWrongFirst old line = (list_all is_short (recorded_lines old.reply) ≡ false) ⊎ IsWrong old line

-- a trace of so many lines that ends here has no fault, or this one
abbrev pub IsEndOf : TraceEnd → ℕ → List Due → Type 0
IsEndOf trace.Accepted count all = fault_behind read_line count all [] ≡ None
IsEndOf (trace.Refused k) count all = fault_behind read_line count all [] ≡ Some k
IsEndOf _ count all = ⊥

-- something may come next, and this is whether a trace may end here
pub record IsEnd (over : Bool) (all : List Due) : Type 0 where
  pub some : 0 < length all
  pub over_is : is_over all ≡ over
