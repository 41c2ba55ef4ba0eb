-- decides: the journal
-- How a script's lines are taken, one by one.
use Rattle.std.specs.Prelude.{◌≡◌, ◌⊎◌, ℕ, ◌<◌, ◌≤◌, length, List, [], ◌∷◌, ◌++◌, Option}
use Rattle.ifdb_disk.specs.Clock.{Clock}
use Rattle.ifdb_journal.specs.Reading.{Adds, MayAdd}
use Rattle.ifdb_journal.specs.declared.record.Record.{Record}
use Rattle.ifdb_wire.specs.Script as script
use Rattle.ifdb_wire.specs.Script.{ScriptLine}
use Rattle.ifdb_model.specs.Run.{State, Step, opens, asks, refused, long, stray, leaves, Told}
use Rattle.ifdb_model.specs.Output.{texts, refusals, refused_at}
use Rattle.ifdb_model.specs.Script.{steps_of}
use Rattle.ifdb_db.specs.Reading.{read_line}
use Rattle.ifdb_db.specs.Room.{Hall, StandsFor}
use Rattle.ifdb_script.specs.Steps.{refusal}
use Rattle.ifdb_keep.specs.Numbered.{state_from, told_from, records_from}
use Rattle.ifdb_keep.specs.Resumed.{begun, base_of}

-- what the steps of a script that begins behind these records are told
abbrev pub told_by : List Record → List Step → List Told
told_by rs steps = told_from read_line (begun rs) (base_of rs) steps

-- the state that they lead to
abbrev pub state_by : List Record → List Step → State
state_by rs steps = state_from read_line (begun rs) (base_of rs) steps

-- and their records
abbrev pub records_by : List Record → List Step → List Record
records_by rs steps = records_from read_line (begun rs) (base_of rs) steps

-- Of the steps of a script these were taken, where memory was refused at exactly those whose replies read error 20, and these not.
abbrev pub AreTaken : List Record → List ℕ → List Step → List Step → Type 0
AreTaken rs input done rest = done ++ rest ≡ refused_at (refusals (told_by rs done)) (steps_of input)

-- ---- one line

-- the room goes on as a step does, whatever state it stood for, the text is that of what the script is told, and these are its records
abbrev pub Takes : ℕ → Hall → Hall → Step → List ℕ → List Record → Type 0
Takes base old new x out rs = (st : State) → StandsFor old st
    → StandsFor new (state_from read_line st base (x ∷ []))
    × (out ≡ texts (told_from read_line st base (x ∷ [])))
    × (rs ≡ records_from read_line st base (x ∷ []))

-- a line's step was taken, or refused for want of memory; a line without a step does nothing
abbrev pub TakesLine : ℕ → Hall → Hall → List Step → List ℕ → List Record → Type 0
TakesLine base old new [] out rs = (new ≡ old) × (out ≡ []) × (rs ≡ [])
TakesLine base old new (x ∷ []) out rs = Takes base old new x out rs ⊎ Takes base old new (refusal x) out rs
TakesLine base old new (x ∷ y ∷ steps) out rs = ⊥

-- a step that a line of a script may have: of a session with a number, and memory isn't refused yet
abbrev pub IsScriptStep : Step → Type 0
IsScriptStep opens = Unit {0}
IsScriptStep (asks n line) = 0 < n
IsScriptStep (refused n) = ⊥
IsScriptStep long = Unit {0}
IsScriptStep stray = Unit {0}
IsScriptStep (leaves n) = ⊥

abbrev pub AreScriptSteps : List Step → Type 0
AreScriptSteps [] = Unit {0}
AreScriptSteps (x ∷ steps) = IsScriptStep x × AreScriptSteps steps

-- a request of a script's line is short enough for a record
abbrev pub AsksShort : ScriptLine → Type 0
AsksShort script.skips = Unit {0}
AsksShort script.opens = Unit {0}
AsksShort (script.asks n request) = length request ≤ 65535
AsksShort script.strays = Unit {0}
AsksShort script.overlong = Unit {0}

-- these records were added to the journal
abbrev pub WereAdded : List Record → Option Clock → ℕ → Option Clock → ℕ → Type 0
WereAdded rs t at u next = Adds rs t at u next × MayAdd rs t at u

-- a line was taken, and then its records were added
abbrev pub TookLine : ℕ → Hall → Hall → List Step → List ℕ → Option Clock → ℕ → Option Clock → ℕ → Type 0
TookLine base old new steps out t at u next = (rs : List Record) × TakesLine base old new steps out rs × WereAdded rs t at u next

-- a line's step was taken, and has a record, but the disk failed before it was added for good
pub record LostLine (base : ℕ) (old new : Hall) (steps : List Step) (t : Option Clock) (at : ℕ) (u : Option Clock) : Type 0 where
  pub step : Step
  pub is : steps ≡ step ∷ []
  pub out : List ℕ
  pub entry : Record
  pub taken : Takes base old new step out (entry ∷ [])
  pub may : MayAdd (entry ∷ []) t at u
