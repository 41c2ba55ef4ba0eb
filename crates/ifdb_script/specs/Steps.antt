-- What doing the step of a line does to a room, and what is put for it. A room stands for any state that shows as it does.
use Rattle.std.specs.Prelude.{◌≡◌, ◌⊎◌, ℕ, List, [], ◌∷◌}
use Rattle.ifdb_model.specs.Step.{Reader}
use Rattle.ifdb_model.specs.Run.{State, Step, opens, asks, refused, long, stray, leaves, next, told}
use Rattle.ifdb_model.specs.Output.{texts}
use Rattle.ifdb_db.specs.Room.{Hall, StandsFor}

-- the room goes on as a step does, whatever state it stood for, and the text is that of what the step is told
abbrev pub Does : Reader → Hall → Hall → Step → List ℕ → Type 0
Does read old new x out = (st : State) → StandsFor old st → StandsFor new (next read st x) × (out ≡ texts (told read st x))

-- the step in place of one for which there was no memory
abbrev pub refusal : Step → Step
refusal opens = refused 0
refusal (asks n line) = refused n
refusal (refused n) = refused n
refusal long = long
refusal stray = stray
refusal (leaves n) = leaves n

-- a line's step was done, or refused for want of memory; a line without a step does nothing
abbrev pub Stepped : Reader → Hall → Hall → List Step → List ℕ → Type 0
Stepped read old new [] out = (new ≡ old) × (out ≡ [])
Stepped read old new (x ∷ []) out = Does read old new x out ⊎ Does read old new (refusal x) out
Stepped read old new (x ∷ y ∷ steps) out = ⊥
