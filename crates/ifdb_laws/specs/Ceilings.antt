-- What the law of ceilings says of the server, for every reading of lines.
use Rattle.std.specs.Prelude.{◌≡◌, ℕ, true, List, ◌++◌, ◌==◌, filter, Some}
use Rattle.ifdb_label.specs.Label.{flows}
use Rattle.ifdb_catalog.specs.Public.{clearance_of}
use Rattle.ifdb_model.specs.Log.{all_tags, public_of}
use Rattle.ifdb_model.specs.Step.{Reader}
use Rattle.ifdb_model.specs.Run.{opening, session_of, Step, Told, run, replies}
use Rattle.ifdb_model.specs.Low.{is_inside, heard}

-- a session has this ceiling after the run, and it flows to the level
pub record HasCeilingBelow (read : Reader) (level : List ℕ) (steps : List Step) (n : ℕ) : Type 0 where
  pub ceiling : List ℕ
  pub had : (session_of (run read opening steps) n).ceiling ≡ Some ceiling
  pub below : flows (all_tags (run read opening steps).log) ceiling level ≡ true

-- a session whose ceiling flows to a level is inside it in each state of the run, from its Open on
abbrev pub CeilingsKeepInside : Type 0
CeilingsKeepInside = (read : Reader) (level : List ℕ) (steps more : List Step) (n : ℕ) → HasCeilingBelow read level (steps ++ more) n
    → is_inside level (run read opening steps) n ≡ true

-- in each state a session's ceiling is its principal's clearance
abbrev pub CeilingsAreClearances : Type 0
CeilingsAreClearances = (read : Reader) (steps : List Step) (n principal : ℕ) → (session_of (run read opening steps) n).principal ≡ Some principal
    → (session_of (run read opening steps) n).ceiling ≡ clearance_of (public_of (run read opening steps).log) principal

-- what one session was told
abbrev pub told_to : ℕ → List Told → List Told
told_to n all = filter (λ (t : Told). t.number == n) all

-- so all that it is told is heard there
abbrev pub CeilingsAreHeard : Type 0
CeilingsAreHeard = (read : Reader) (level : List ℕ) (steps : List Step) (n : ℕ) → HasCeilingBelow read level steps n
    → told_to n (heard read level opening steps) ≡ told_to n (replies read opening steps)
