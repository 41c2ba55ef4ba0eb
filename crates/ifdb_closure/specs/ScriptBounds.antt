-- decides: closures
-- What the calls of a script keep to, as the program reads its lines, with whatever memory they have.
use Rattle.std.specs.Prelude.{◌≡◌, ℕ, ◌+◌, Bool, true, List, [], ◌∷◌, length, is_some}
use Rattle.std.specs.List.{list_any}
use Rattle.ifdb_catalog.specs.Public.{principal_named}
use Rattle.ifdb_model.specs.Log.{public_of}
use Rattle.ifdb_model.specs.Run.{Step, opens, asks, next, run, Told}
use Rattle.ifdb_db.specs.Reading.{read_line}
use Rattle.ifdb_closure.specs.Bounds.{AreOwners}
use Rattle.ifdb_closure.specs.Closures.{World, calls, start, seated, closure_named, or_none, is_refusal, called_with, turn, after_turn}
use Rattle.ifdb_closure.specs.Forms.{closure_form}
use Rattle.ifdb_closure.specs.Lacking.{Memory, turn_with}
use Rattle.ifdb_closure.specs.Speaking.{speech}

-- the world after some steps, with the memory that each had
abbrev pub world_with : World → List Memory → List Step → World
world_with w memory [] = w
world_with w [] (step ∷ steps) = world_with (after_turn speech w (turn speech w step)) [] steps
world_with w (m ∷ memory) (step ∷ steps) = world_with (after_turn speech w (turn_with speech w m step)) memory steps

-- a refusal is told
abbrev pub are_refused : List Told → Bool
are_refused told = list_any (λ (t : Told). is_refusal t.reply) told

-- In each world of a script, a CALL that is told a refusal, error 20 among them, leaves the log as it was.
abbrev pub ScriptCallsCommitNothing : Type 0
ScriptCallsCommitNothing = (memory : List Memory) (steps : List Step) (m : Memory) (n : ℕ) (line name : List ℕ) → closure_form line ≡ calls name
    → let w = world_with start memory steps in let t = turn_with speech w m (asks n line) in
    are_refused t.told ≡ true → (run read_line w.state t.steps).log ≡ w.state.log

-- In each world of a script, and behind the HELLO of a call of one of its closures, each line is asked by the principal of the name that the
-- closure's owner said HELLO by.
abbrev pub ScriptCallsAreTheOwners : Type 0
ScriptCallsAreTheOwners = (memory : List Memory) (steps : List Step) (n : ℕ) (name : List ℕ) (flags : List Bool) → let w = world_with start memory steps in
    let c = or_none (closure_named w.closures name) in is_some (closure_named w.closures name) ≡ true
    → AreOwners speech (principal_named (public_of w.state.log) c.owner.name) (length w.state.sessions + 1) (next read_line w.state opens)
    (called_with speech w.state (seated w n).label c flags).asked
