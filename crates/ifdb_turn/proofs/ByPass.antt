-- The rule once more, with all that is known of one pass put together, as the proofs of the steps use it. The two say the same.
use Rattle.std.proofs.Common.{◌≡◌, ◌≢◌, ℕ, ◌+◌, ◌<◌, ◌≤◌, Bool, true, List, [], length, sym, ap, ◌∙◌, subst, arith, Some, None, cond, is_some}
use mathlib.Core.Logic.{dite}
use mathlib.Core.Option.{none, some, some-injective, some-ne-none}
use mathlib.Core.Option as maybe
use mathlib.Core.List.{IsPrefix}
use native.Mathlib.Decide.{ℕ_discrete}
use lib.ListN.{get_elem?}
use Rattle.ifdb_turn.specs.declared.view.TableIdentity.{TableIdentity}
use Rattle.ifdb_turn.specs.declared.view.Stage.TheVariants.{Opening, Idle, InTurn}
use Rattle.ifdb_turn.specs.declared.view.PassView.{PassView}
use Rattle.ifdb_turn.specs.declared.view.Kept.{Kept}
use Rattle.ifdb_turn.specs.Histories.{AllRight, NoRootsFrom}
use Rattle.ifdb_turn.specs.Places.{times, one_below, RisesFrom, LiesBelow}
use Rattle.ifdb_turn.specs.Views.{all_shares, total, Each, Somewhere, HasTicket, HasTurn, IsOutOfTurn}
use Rattle.ifdb_turn.specs.Rule.{Home, appended_in, Keeps, TurnOf, SlotOf, Running}
use Rattle.ifdb_turn.proofs.ViewLemmas.{no_truth}
use Rattle.ifdb_turn.proofs.HistoryLemmas.{get_Some}

-- 1 where an entry was appended in the turn
abbrev pub one_used : Bool → ℕ
one_used used = cond used 1 0

-- what is known of one pass
module _ {E : Type 0} (root : E → ℕ) (log : List E) (table : TableIdentity) (ticket serving : ℕ) where
  pub record Fits (v : PassView E) : Type 0 where
    pub history : IsPrefix v.history log
    pub before : IsPrefix v.earlier v.history
    pub places : LiesBelow (length v.history) v.places
    pub rises : RisesFrom 0 v.places
    pub foreign : NoRootsFrom root log (length v.history) v.places
    pub held : (n : ℕ) → HasTicket n v.stage → (serving ≤ n) × (n < ticket)
    pub turn : (n : ℕ) → HasTurn n v.stage → n ≡ serving
    pub named : 0 < v.shares → v.table ≡ table
    pub spent : v.shares ≡ 0 → (v.places ≡ []) × (v.stage ≡ Idle)
    pub later : v.stage ≡ Opening → ⊥

module _ {X E : Type 0} (stands : X → List E → Type 0) where
  -- who has the turn and the slot: nobody, or the seat of this number
  abbrev pub Slot : List E → TableIdentity → ℕ → ℕ → List (PassView E) → Home X E → maybe.Option ℕ → Type 0
  Slot log table serving count views home none =
      Each views (λ v. IsOutOfTurn v.stage) × (count ≤ serving) × (serving ≡ 0 → home ≡ some None)
      × (0 < serving → (h : Kept X E) × (home ≡ some (Some h)) × Keeps stands table log h)
  Slot log table serving count views home (some i) =
      (v : PassView E) × (used : Bool) × (get_elem? views i ≡ some v) × (v.stage ≡ InTurn serving used log)
      × (used ≡ true → v.history ≡ log) × (count ≤ serving + one_used used) × (home ≡ none)
      × ((j : ℕ) (w : PassView E) → j ≢ i → get_elem? views j ≡ some w → IsOutOfTurn w.stage)

  -- the seat with the turn
  abbrev seat_of : maybe.Option (ℕ × Bool) → maybe.Option ℕ
  seat_of none = none
  seat_of (some turn) = some turn.0

  slot_by_pass : (log : List E) (table : TableIdentity) (serving count : ℕ) (views : List (PassView E)) (home : Home X E)
      (turn : maybe.Option (ℕ × Bool))
      → TurnOf serving log views turn → SlotOf serving home turn → count ≤ serving + appended_in turn
      → ((kept : Kept X E) → home ≡ some (Some kept) → Keeps stands table log kept)
      → Slot log table serving count views home (seat_of turn)
  slot_by_pass log table serving count views home none holder slot room kept = (
    holder,
    omega arith,
    slot.0,
    λ l. let k = slot.1 l in (k.0, k.1, kept k.0 k.1),
  )
  slot_by_pass log table serving count views home (some turn) holder slot room kept = (
    holder.0,
    turn.1,
    holder.1,
    holder.2,
    holder.3,
    room,
    slot,
    holder.4,
  )

  module _ (log : List E) (table : TableIdentity) (serving count : ℕ) (views : List (PassView E)) (home : Home X E) where
    abbrev turn_from : (seat : maybe.Option ℕ) → Slot log table serving count views home seat → maybe.Option (ℕ × Bool)
    turn_from none p = none
    turn_from (some i) p = some (i, p.1)

    holder_from : (seat : maybe.Option ℕ) (p : Slot log table serving count views home seat)
        → TurnOf serving log views (turn_from seat p)
    holder_from none p = p.0
    holder_from (some i) p = (p.0, p.2, p.3, p.4, p.7)

    slot_from : (seat : maybe.Option ℕ) (p : Slot log table serving count views home seat)
        → SlotOf serving home (turn_from seat p)
    slot_from none p = (p.2, λ l. let h = p.3 l in (h.0, h.1))
    slot_from (some i) p = p.6

    room_from : (seat : maybe.Option ℕ) (p : Slot log table serving count views home seat)
        → count ≤ serving + appended_in (turn_from seat p)
    room_from none p = let le : count ≤ serving = p.1 in omega arith
    room_from (some i) p = p.5

    kept_from : (seat : maybe.Option ℕ) → Slot log table serving count views home seat → (kept : Kept X E)
        → home ≡ some (Some kept) → Keeps stands table log kept
    kept_from none p kept at = dite (ℕ_discrete serving 0)
        (λ z. absurd (no_truth (sym (ap is_some (some-injective (Some kept) None (sym at ∙ p.2 z))))))
        (λ nz. let h = p.3 (omega arith) in
        let same : h.0 ≡ kept = ap (get_Some h.0) (some-injective (Some h.0) (Some kept) (sym h.1 ∙ at)) in
        subst (λ (k : Kept X E). Keeps stands table log k) same h.2)
    kept_from (some i) p kept at = absurd (some-ne-none (Some kept) (sym at ∙ p.6))

module _ {X E : Type 0} (stands : X → List E → Type 0) (right : List E → E → Type 0) (root : E → ℕ) where
  -- the rule from ticket 0 on
  pub record Runs (ticket serving count : ℕ) (home : Home X E) (views : List (PassView E)) : Type 0 where
    pub log : List E
    pub table : TableIdentity
    pub turn : maybe.Option ℕ
    pub opened : 0 < ticket
    pub small : ticket < 18446744073709551616
    pub count_is : count ≡ length log
    pub in_order : AllRight right log
    pub serves : serving ≤ ticket
    pub each : Each views (λ v. Fits root log table ticket serving v)
    pub apart : (i j : ℕ) (v w : PassView E) (n : ℕ) → get_elem? views i ≡ some v → get_elem? views j ≡ some w
        → HasTicket n v.stage → HasTicket n w.stage → i ≡ j
    pub shares : total (λ v. v.shares) views ≡ all_shares
    pub places : (k : ℕ) → total (λ v. times k v.places) views ≡ one_below k (length log)
    pub whole : Somewhere views (λ v. (0 < v.shares) × (v.history ≡ log))
    pub first : serving ≡ 0 → Somewhere views (λ v. (v.shares ≡ all_shares) × HasTicket 0 v.stage)
    pub slot : Slot stands log table serving count views home turn

module _ {X E : Type 0} {stands : X → List E → Type 0} {right : List E → E → Type 0} {root : E → ℕ} {ticket serving count : ℕ} {home : Home X E} {views : List (PassView E)} where
  pub by_pass : Running stands right root ticket serving count home views → Runs stands right root ticket serving count home views
  by_pass r = record {
    log = r.log;
    table = r.table;
    turn = seat_of stands r.turn;
    opened = r.opened.0;
    small = r.small;
    count_is = r.counted;
    in_order = r.in_order;
    serves = r.served;
    each = λ j v at. (let seen = r.seen j v at in let below = r.below j v at in record {
      history = seen.0;
      before = seen.1;
      places = below.1;
      rises = below.0;
      foreign = r.foreign j v at;
      held = r.tickets j v at;
      turn = r.turns j v at;
      named = r.named j v at;
      spent = r.spent j v at;
      later = r.opened.1 j v at;
    });
    apart = λ i j v w n. r.apart n i j v w;
    shares = r.shares;
    places = r.owned;
    whole = r.whole;
    first = r.first;
    slot = slot_by_pass stands r.log r.table serving count views home r.turn r.holder r.slot r.room r.kept;
  }

  pub ruled : Runs stands right root ticket serving count home views → Running stands right root ticket serving count home views
  ruled r = record {
    log = r.log;
    table = r.table;
    turn = turn_from stands r.log r.table serving count views home r.turn r.slot;
    seen = λ j v at. (let f = r.each j v at in (f.history, f.before));
    counted = r.count_is;
    whole = r.whole;
    below = λ j v at. (let f = r.each j v at in (f.rises, f.places));
    owned = r.places;
    foreign = λ j v at. (r.each j v at).foreign;
    in_order = r.in_order;
    served = r.serves;
    tickets = λ j v at. (r.each j v at).held;
    turns = λ j v at. (r.each j v at).turn;
    apart = λ n i j v w. r.apart i j v w n;
    kept = kept_from stands r.log r.table serving count views home r.turn r.slot;
    holder = holder_from stands r.log r.table serving count views home r.turn r.slot;
    slot = slot_from stands r.log r.table serving count views home r.turn r.slot;
    first = r.first;
    room = room_from stands r.log r.table serving count views home r.turn r.slot;
    small = r.small;
    shares = r.shares;
    spent = λ j v at. (r.each j v at).spent;
    named = λ j v at. (r.each j v at).named;
    opened = (r.opened, λ j v at. (r.each j v at).later);
  }
