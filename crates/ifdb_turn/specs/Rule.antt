-- The rule of the table: what holds of its three words, its slot and the views of all seats, between any two steps.
use Rattle.std.specs.Prelude.{◌≡◌, ◌⊎◌, ℕ, ◌+◌, ◌<◌, ◌≤◌, Bool, true, if◌then◌else◌, List, [], ◌∷◌, length, Option, Some, None}
use mathlib.Core.Option.{some, none}
use mathlib.Core.Option as maybe
use mathlib.Core.List.{IsPrefix}
use lib.ListN.{get_elem?}
use Rattle.atomic_table.specs.Table.{State}
use Rattle.ifdb_turn.specs.declared.view.TableIdentity.{TableIdentity}
use Rattle.ifdb_turn.specs.declared.view.Stage.TheVariants.{Opening, Idle, InTurn}
use Rattle.ifdb_turn.specs.declared.view.PassView.{PassView}
use Rattle.ifdb_turn.specs.declared.view.Kept.{Kept}
use Rattle.ifdb_turn.specs.Histories.{AllRight, NoRootsFrom}
use Rattle.ifdb_turn.specs.Places.{times, one_below, RisesFrom, LiesBelow}
use Rattle.ifdb_turn.specs.Views.{newcomer, opener, all_shares, total, Each, Others, AtMostOne, Somewhere, HasTicket, HasTurn, IsOutOfTurn, IsWitness}

-- 1 where an entry was appended in the turn that is held. A turn is the seat that has it, and whether it has appended
abbrev pub appended_in : maybe.Option (ℕ × Bool) → ℕ
appended_in none = 0
appended_in (some turn) = if turn.1 then 1 else 0

-- what lies in the slot, if it is at home
abbrev pub Home : Type 0 → Type 0 → Type 0
Home X E = maybe.Option (Option (Kept X E))

module _ {E : Type 0} where
  -- who has the turn: nobody, or one pass, which knows the whole history, and has seen it where it has appended
  abbrev pub TurnOf : ℕ → List E → List (PassView E) → maybe.Option (ℕ × Bool) → Type 0
  TurnOf serving log views none = Each views (λ v. IsOutOfTurn v.stage)
  TurnOf serving log views (some turn) = (v : PassView E) × (get_elem? views turn.0 ≡ some v)
      × (v.stage ≡ InTurn serving turn.1 log) × (turn.1 ≡ true → v.history ≡ log)
      × Others views turn.0 (λ w. IsOutOfTurn w.stage)

module _ {X E : Type 0} where
  -- the object stands for the history, and the witness has seen all of it
  abbrev pub Keeps : (X → List E → Type 0) → TableIdentity → List E → Kept X E → Type 0
  Keeps stands table log kept = stands kept.object log × IsWitness table.id log kept.witness

  -- where the slot is: out with the turn, or at home, empty up to the end of the first turn and then with the object
  abbrev pub SlotOf : ℕ → Home X E → maybe.Option (ℕ × Bool) → Type 0
  SlotOf serving home none =
      (serving ≡ 0 → home ≡ some None) × (0 < serving → (kept : Kept X E) × (home ≡ some (Some kept)))
  SlotOf serving home (some turn) = home ≡ none

module _ {X E : Type 0} (stands : X → List E → Type 0) (right : List E → E → Type 0) (root : E → ℕ) where
  -- Before ticket 0 is taken: the words are 0, the slot is empty, and no pass has seen or has anything
  pub record Blank (ticket serving count : ℕ) (home : Home X E) (views : List (PassView E)) : Type 0 where
    pub words : (ticket ≡ 0) × (serving ≡ 0) × (count ≡ 0)
    pub slot : home ≡ some None
    pub each : Each views (λ v. (v ≡ newcomer) ⊎ (v ≡ opener))
    pub one : AtMostOne views (λ v. v.stage ≡ Opening)

  -- From ticket 0 on: nine points, over one history, one table, and the turn that is held, if one is
  pub record Running (ticket serving count : ℕ) (home : Home X E) (views : List (PassView E)) : Type 0 where
    pub log : List E
    pub table : TableIdentity
    pub turn : maybe.Option (ℕ × Bool)
    -- 1. What passes have seen are beginnings of the history. Count is its length, and some pass with a share has seen all
    pub seen : Each views (λ v. IsPrefix v.history log × IsPrefix v.earlier v.history)
    pub counted : count ≡ length log
    pub whole : Somewhere views (λ v. (0 < v.shares) × (v.history ≡ log))
    -- 2. Own places rise and lie below what the pass has seen. Each place of the history is an own place of just one pass
    pub below : Each views (λ v. RisesFrom 0 v.places × LiesBelow (length v.history) v.places)
    pub owned : (k : ℕ) → total (λ v. times k v.places) views ≡ one_below k (length log)
    -- 3. No entry past what a pass has seen has its root among the pass's own places
    pub foreign : Each views (λ v. NoRootsFrom root log (length v.history) v.places)
    -- 4. Each entry was right after those before it
    pub in_order : AllRight right log
    -- 5. Serving is at most ticket. Tickets held are different and lie from serving up to below ticket, and the turn's is serving
    pub served : serving ≤ ticket
    pub tickets : Each views (λ v. (n : ℕ) → HasTicket n v.stage → (serving ≤ n) × (n < ticket))
    pub turns : Each views (λ v. (n : ℕ) → HasTurn n v.stage → n ≡ serving)
    pub apart : (n : ℕ) → AtMostOne views (λ v. HasTicket n v.stage)
    -- 6. Where the slot has the object, it stands for the whole history, and the witness has seen all of it
    pub kept : (kept : Kept X E) → home ≡ some (Some kept) → Keeps stands table log kept
    -- 7. Only the pass with the turn has the slot. While serving is 0, the first pass is on its way, with all shares
    pub holder : TurnOf serving log views turn
    pub slot : SlotOf serving home turn
    pub first : serving ≡ 0 → Somewhere views (λ v. (v.shares ≡ all_shares) × HasTicket 0 v.stage)
    -- 8. Count is at most serving, or one more where the turn has appended. A turn's ticket is below 2 ^ 64 - 1
    pub room : count ≤ serving + appended_in turn
    pub small : ticket < 18446744073709551616
    -- 9. The shares add up to 2 ^ 32. A pass without a share has no ticket and no own places
    pub shares : total (λ v. v.shares) views ≡ all_shares
    pub spent : Each views (λ v. v.shares ≡ 0 → (v.places ≡ []) × (v.stage ≡ Idle))
    -- Each pass with a share knows the table, and the table's first seat has taken ticket 0
    pub named : Each views (λ v. 0 < v.shares → v.table ≡ table)
    pub opened : (0 < ticket) × Each views (λ v. v.stage ≡ Opening → ⊥)

  -- The rule: three words, one slot, and one of the two
  pub record Ruled (s : State (Option (Kept X E)) (PassView E)) : Type 0 where
    pub ticket : ℕ
    pub serving : ℕ
    pub count : ℕ
    pub home : Home X E
    pub words : s.words ≡ ticket ∷ serving ∷ count ∷ []
    pub homes : s.homes ≡ home ∷ []
    pub phase : Blank ticket serving count home s.views ⊎ Running ticket serving count home s.views
