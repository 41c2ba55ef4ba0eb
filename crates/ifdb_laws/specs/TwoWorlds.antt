-- decides: two worlds
-- What the laws of two worlds say of the server. A level is any list of tags, and a session is inside it while its label
-- flows to it. Each law is for every reading of lines.
use Rattle.std.specs.Prelude.{◌≡◌, ℕ, true, false, List}
use Rattle.ifdb_model.specs.Step.{Reader}
use Rattle.ifdb_model.specs.Run.{State, opening, Step, next, told, run, replies}
use Rattle.ifdb_model.specs.Low.{asked, low, heard, part}
use Rattle.ifdb_model.specs.Crossing.{crosses, quiet}

-- in each state of a run a step that is asked outside, and doesn't cross the level, leaves the part inside as it is
abbrev pub OutsideStep : Type 0
OutsideStep = (read : Reader) (level : List ℕ) (steps : List Step) (step : Step)
    → let state = run read opening steps in asked level state step ≡ false → crosses read level state step ≡ false
    → part level (next read state step) ≡ part level state

-- a step that is asked inside in both states, and crosses the level in neither: it is told the same, and leaves equal parts
pub record IsAlike (read : Reader) (level : List ℕ) (s t : State) (step : Step) : Type 0 where
  pub asked_second : asked level t step ≡ true
  pub quiet_second : crosses read level t step ≡ false
  pub same_told : told read s step ≡ told read t step
  pub same_part : part level (next read s step) ≡ part level (next read t step)

-- two runs without a crossing that end with equal parts: what is asked inside after the first, and doesn't cross the
-- level, does the same inside after the second
abbrev pub InsideStep : Type 0
InsideStep = (read : Reader) (level : List ℕ) (xs ys : List Step) (step : Step)
    → quiet read level opening xs ≡ true → quiet read level opening ys ≡ true
    → let s = run read opening xs in let t = run read opening ys in part level s ≡ part level t
    → asked level s step ≡ true → crosses read level s step ≡ false → IsAlike read level s t step

-- run alone, the steps that are asked inside are told what they are told among the others
abbrev pub AloneIsHeard : Type 0
AloneIsHeard = (read : Reader) (level : List ℕ) (steps : List Step) → quiet read level opening steps ≡ true
    → replies read opening (low read level opening steps) ≡ heard read level opening steps

-- run alone, they end with the part inside that they have among the others
abbrev pub AloneEndsAlike : Type 0
AloneEndsAlike = (read : Reader) (level : List ℕ) (steps : List Step) → quiet read level opening steps ≡ true
    → part level (run read opening (low read level opening steps)) ≡ part level (run read opening steps)

-- Two lists of steps, neither of which crosses the level, agree below it. Steps that are refused for want of memory may
-- stand in both.
pub record Agree (read : Reader) (level : List ℕ) (xs ys : List Step) : Type 0 where
  pub first_quiet : quiet read level opening xs ≡ true
  pub second_quiet : quiet read level opening ys ≡ true
  pub same_low : low read level opening xs ≡ low read level opening ys

-- who is inside hears the same in both
abbrev pub TwoWorlds : Type 0
TwoWorlds = (read : Reader) (level : List ℕ) (xs ys : List Step) → Agree read level xs ys
    → heard read level opening xs ≡ heard read level opening ys
