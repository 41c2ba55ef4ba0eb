-- What holds in each state of a run without a crossing: everything stands on one side of the level.
use Rattle.std.specs.Prelude.{◌≡◌, ℕ, Bool, true, List, [], ◌++◌, ◌||◌, not, Option, Some, None}
use Rattle.std.specs.List.{list_all}
use Rattle.ifdb_row.specs.declared.slot.Slot.{Slot}
use Rattle.ifdb_row.specs.declared.write.Write.{Write}
use Rattle.ifdb_row.specs.Sides.{are_on, is_sided, are_sided_writes}
use Rattle.ifdb_model.specs.Log.{all_tags, commits_of, content_of}
use Rattle.ifdb_model.specs.Session.{Txn}
use Rattle.ifdb_model.specs.Step.{Reader}
use Rattle.ifdb_model.specs.Run.{State, opening, session_of, Step, run}
use Rattle.ifdb_model.specs.Low.{is_inside_slot, is_inside}
use Rattle.ifdb_model.specs.Crossing.{quiet}

-- a transaction's own writes
abbrev pub own_of : Option Txn → List Write
own_of None = []
own_of (Some x) = x.own

-- each write is on the side, or none is
abbrev pub are_together : (Slot → Bool) → List Write → Bool
are_together side ws = are_on side ws || are_on (λ s. not (side s)) ws

-- a slot's label flows to the level, by all tags of the state
abbrev pub side_of : List ℕ → State → Slot → Bool
side_of level state = is_inside_slot (all_tags state.log) level

-- what a session wrote in its open transaction
abbrev pub own_writes : State → ℕ → List Write
own_writes state n = own_of (session_of state n).txn

-- A session inside has written inside alone; a commit is wholly inside or wholly outside; and a row stands on one side
-- with its bound parents: in the content, in each commit, and in each open transaction.
pub record IsOneSided (level : List ℕ) (state : State) : Type 0 where
  pub own_inside : (n : ℕ) → is_inside level state n ≡ true → are_on (side_of level state) (own_writes state n) ≡ true
  pub commits_together : list_all (are_together (side_of level state)) (commits_of state.log) ≡ true
  pub content_sided : list_all (is_sided (side_of level state)) (content_of state.log) ≡ true
  pub commits_sided : list_all (are_sided_writes (side_of level state)) (commits_of state.log) ≡ true
  pub own_sided : (n : ℕ) → are_sided_writes (side_of level state) (own_writes state n) ≡ true

abbrev pub QuietRunsAreOneSided : Type 0
QuietRunsAreOneSided = (read : Reader) (level : List ℕ) (steps : List Step) → quiet read level opening steps ≡ true
    → IsOneSided level (run read opening steps)

-- in a run without a crossing a session that is inside has been inside from the start
abbrev pub InsideSinceTheStart : Type 0
InsideSinceTheStart = (read : Reader) (level : List ℕ) (steps more : List Step) (n : ℕ) → quiet read level opening (steps ++ more) ≡ true
    → is_inside level (run read opening (steps ++ more)) n ≡ true → is_inside level (run read opening steps) n ≡ true
