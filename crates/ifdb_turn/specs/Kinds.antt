-- What each kind of atomic step tells the pass that takes it: of the step, the seat before, the number found, and the seat after.
use Rattle.std.specs.Prelude.{◌≡◌, ◌≢◌, ℕ, ◌+◌, ◌-◌, ◌<◌, ◌≤◌, Bool, true, false, List, [], ◌∷◌, ◌++◌, length, Option, Some, None}
use mathlib.Core.Option.{some, none}
use mathlib.Core.Option as maybe
use mathlib.Core.List.{IsPrefix}
use Rattle.atomic_table.specs.Table.{Me, Step}
use Rattle.ifdb_turn.specs.declared.view.TableIdentity.{TableIdentity}
use Rattle.ifdb_turn.specs.declared.view.Stage.TheVariants.{Idle, Waiting, InTurn}
use Rattle.ifdb_turn.specs.declared.view.PassView.{PassView}
use Rattle.ifdb_turn.specs.declared.view.Kept.{Kept}
use Rattle.ifdb_turn.specs.Histories.{AllRight, NoRootsFrom, longer, shorter}
use Rattle.ifdb_turn.specs.Places.{RisesFrom, LiesBelow, merge}
use Rattle.ifdb_turn.specs.Views.{newcomer, no_table, all_shares}
use Rattle.ifdb_turn.specs.Rule.{Keeps}

-- a pass's view, and the slots that it has
abbrev pub Mine : Type 0 → Type 0 → Type 0
Mine X E = Me (Option (Kept X E)) (PassView E)

-- a step on the table
abbrev pub StepOf : Type 0 → Type 0 → Type 0
StepOf X E = Step (Option (Kept X E))

-- what each pass may rely on: its history is in order, and its own places rise and lie below what it has seen
abbrev pub IsOrderlyView : {E : Type 0} → (List E → E → Type 0) → PassView E → Type 0
IsOrderlyView right v = AllRight right v.history × RisesFrom 0 v.places × LiesBelow (length v.history) v.places

module _ {E : Type 0} where
  -- a pass that has given up some shares
  abbrev pub without_shares : ℕ → PassView E → PassView E
  without_shares n v = record v { shares = v.shares - n }

  -- a new pass with these shares, which has seen as much
  abbrev pub with_shares : ℕ → PassView E → PassView E
  with_shares n v = record { table = v.table; history = v.history; earlier = []; places = []; shares = n; stage = Idle }

  -- two passes as one: the longer history, the places of both and the shares of both
  abbrev pub joined : PassView E → PassView E → PassView E
  joined v w = record v {
    history = longer v.history w.history;
    earlier = shorter v.history w.history;
    places = merge v.places w.places;
    shares = v.shares + w.shares;
  }

  -- a pass that has seen the whole history and appends an entry, in the turn with the ticket n
  abbrev pub after_append : PassView E → ℕ → E → PassView E
  after_append v n e = record v {
    history = v.history ++ e ∷ [];
    places = v.places ++ length v.history ∷ [];
    stage = InTurn n true (v.history ++ e ∷ []);
  }

module _ {X E : Type 0} where
  -- make a seat: it has seen nothing
  abbrev pub made_seat : StepOf X E → Mine X E → ℕ → Mine X E → Type 0
  made_seat step before found after = after.0 ≡ newcomer

  -- take a ticket: the pass has it, and it isn't ticket 0; or another one was found, and nothing changed
  abbrev pub took_ticket : StepOf X E → Mine X E → ℕ → Mine X E → Type 0
  took_ticket step before found after = (after.1 ≡ before.1)
      × (found ≡ step.first → (0 < found) × (after.0 ≡ record before.0 { stage = Waiting step.first }))
      × (found ≢ step.first → after.0 ≡ before.0)

  -- the table of the witness that the step announced
  abbrev pub table_said : maybe.Option (Option (Kept X E)) → TableIdentity
  table_said (some (Some kept)) = record { id = kept.witness.table_id }
  table_said _ = no_table

  -- take ticket 0, and all shares with it
  abbrev pub took_first_ticket : StepOf X E → Mine X E → ℕ → Mine X E → Type 0
  took_first_ticket step before found after = (after.1 ≡ before.1)
      × (after.0 ≡ record newcomer { table = table_said step.said; shares = all_shares; stage = Waiting 0 })

  -- hand on: the ticket is given up, and the slot is given back
  abbrev pub handed_on : (List E → E → Type 0) → StepOf X E → Mine X E → ℕ → Mine X E → Type 0
  handed_on right step before found after =
      (after.0 ≡ record before.0 { stage = Idle }) × (after.1 ≡ []) × IsOrderlyView right before.0

  -- load the count: nothing changed; the pass is orderly, and both histories of the last join begin what was seen.
  -- In a turn, the number found is the length of the whole history, which begins with what was seen
  abbrev pub loaded_count : (List E → E → Type 0) → StepOf X E → Mine X E → ℕ → Mine X E → Type 0
  loaded_count right step before found after = (after ≡ before) × IsOrderlyView right before.0
      × ((n : ℕ) (used : Bool) (log : List E) → before.0.stage ≡ InTurn n used log
      → (found ≡ length log) × IsPrefix before.0.history log)
      × IsPrefix before.0.earlier before.0.history

  -- append: the entry is seen, its place is own, and the turn is marked
  abbrev pub appended : Option E → StepOf X E → Mine X E → ℕ → Mine X E → Type 0
  appended entry step before found after = (after.1 ≡ before.1)
      × ((n : ℕ) (e : E) → before.0.stage ≡ InTurn n false before.0.history → entry ≡ Some e
      → after.0 ≡ after_append before.0 n e)

  module _ (stands : X → List E → Type 0) (right : List E → E → Type 0) (root : E → ℕ) where
    -- what a turn finds: the object for the whole history, which begins with what was seen, is in order, has no
    -- entry of others that names an own place as root, and has room for one entry more
    abbrev pub Finds : PassView E → List E → Kept X E → Type 0
    Finds v log kept = Keeps stands v.table log kept × IsPrefix v.history log × AllRight right log
        × NoRootsFrom root log (length v.history) v.places × (length log < 18446744073709551615)

    -- a turn begins: the pass has the slot, empty in the first turn and with the object in the others
    abbrev pub Begins : ℕ → Mine X E → Mine X E → Type 0
    Begins n before after = (log : List E) × (content : Option (Kept X E))
        × (after.0 ≡ record before.0 { stage = InTurn n false log })
        × (after.1 ≡ (0, content) ∷ before.1) × (n ≡ 0 → (content ≡ None) × (log ≡ []))
        × (0 < n → (kept : Kept X E) × (content ≡ Some kept) × Finds before.0 log kept)

    -- look at serving: the turn begins where the ticket is served, and else nothing changed
    abbrev pub looked_at_serving : StepOf X E → Mine X E → ℕ → Mine X E → Type 0
    looked_at_serving step before found after = (n : ℕ) → before.0.stage ≡ Waiting n
        → (found ≤ n) × (found ≡ n → Begins n before after) × (found ≢ n → after ≡ before)
