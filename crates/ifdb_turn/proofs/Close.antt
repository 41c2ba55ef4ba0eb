-- The end: a pass with all shares has seen all, and the object is in the slot.
use Rattle.std.proofs.Common.{◌≡◌, ◌≢◌, ℕ, ◌<◌, List, [], ◌∷◌, length, set, sym, refl, ap, ◌∙◌, subst, arith, Option, Some, None, lt-ltb, is_some}
use mathlib.Core.Logic.{dite}
use mathlib.Core.Option.{none, some, some-injective}
use mathlib.Core.Option as maybe
use native.Mathlib.Decide.{ℕ_discrete}
use lib.ListN.{get_elem?}
use Rattle.atomic_table.specs.Table.{State, Final, Seen}
use Rattle.ifdb_turn.specs.declared.view.TableIdentity.{TableIdentity}
use Rattle.ifdb_turn.specs.declared.view.Stage.TheVariants.{Idle}
use Rattle.ifdb_turn.specs.declared.view.PassView.{PassView}
use Rattle.ifdb_turn.specs.declared.view.Kept.{Kept}
use Rattle.ifdb_turn.specs.Histories.{AllRight}
use Rattle.ifdb_turn.specs.Places.{one_below, times}
use Rattle.ifdb_turn.specs.Views.{newcomer, all_shares, total, HasTicket}
use Rattle.ifdb_turn.specs.Rule.{Home, Keeps, Ruled}
use Rattle.ifdb_turn.specs.Kinds.{Mine}
use Rattle.ifdb_turn.proofs.ByPass.{Runs, Slot, one_used}
use Rattle.ifdb_turn.proofs.Sums.{total-set, total_two, total_zero}
use Rattle.ifdb_turn.proofs.ViewLemmas.{each_set, one, no_ticket, idle, no_turn, no_truth}
use Rattle.ifdb_turn.proofs.HistoryLemmas.{get_Some}
use Rattle.ifdb_turn.proofs.Steps.{runs}

module _ {X E : Type 0} (stands : X → List E → Type 0) (right : List E → E → Type 0) (root : E → ℕ) where
  abbrev St : Type 0
  St = State (Option (Kept X E)) (PassView E)

  abbrev M : Type 0
  M = Mine X E

  abbrev Rule : St → Type 0
  Rule = Ruled stands right root

  abbrev Run : ℕ → ℕ → ℕ → Home X E → List (PassView E) → Type 0
  Run = Runs stands right root

  close_slot : (serving count : ℕ) (views : List (PassView E)) (home : Home X E) (id : ℕ) (v : PassView E) (log : List E)
      (table : TableIdentity) (turn : maybe.Option ℕ) → get_elem? views id ≡ some v → v.stage ≡ Idle
      → ((j : ℕ) (u : PassView E) → j ≢ id → get_elem? views j ≡ some u → (u.places ≡ []) × (u.stage ≡ Idle)) → ¬ (serving ≡ 0)
      → Slot stands log table serving count views home turn → (h : Kept X E) × (home ≡ some (Some h)) × Keeps stands table log h
  close_slot serving count views home id v log table none at free others served p = p.3 (omega arith)
  close_slot serving count views home id v log table (some i) at free others served p =
      let held : p.0.stage ≡ Idle = dite (ℕ_discrete i id) (λ e. ap
      (λ (z : PassView E). z.stage) (one views i id p.0 v e p.2 at) ∙ free) (λ ne. (others i p.0 ne p.2).1) in
      absurd (no_turn serving p.1 log p.0.stage (idle p.0.stage held) p.3)

  -- the end: who has all shares has seen all, and the state is at home
  pub closes : (s : St) (r : Rule s) (id : ℕ) (v : PassView E) → get_elem? s.views id ≡ some v → v.shares ≡ all_shares
      → v.stage ≡ Idle
      → (h : Kept X E) × (s.homes ≡ some (Some h) ∷ []) × stands h.object v.history × AllRight right v.history × ((k : ℕ)
      → k < length v.history → 0 < times k v.places)
  closes s r id v at all free =
      let run = runs stands right root r.ticket r.serving r.count r.home s.views id v r.phase at (omega arith) in
      let sum = run.shares in
      let bare : (j : ℕ) (u : PassView E) → j ≢ id → get_elem? s.views j ≡ some u → u.shares ≡ 0 = λ j u ne a. (let two = total_two (λ (u : PassView E). u.shares) s.views id j v u ne at a in omega arith) in
      let spent : (j : ℕ) (u : PassView E) → j ≢ id → get_elem? s.views j ≡ some u → (u.places ≡ []) × (u.stage ≡ Idle) = λ j u ne a. (run.each j u a).spent (bare j u ne a) in
      let seen : v.history ≡ run.log = let p = run.whole in
      dite (ℕ_discrete p.0 id) (λ e. ap (λ (z : PassView E). z.history) (sym (one s.views p.0 id p.1 v e p.2 at)) ∙ p.3.1)
      (λ ne. let z = bare p.0 p.1 ne p.2 in let y = p.3.0 in absurd (omega arith)) in
      let served : run.log ≡ run.log → ¬ (r.serving ≡ 0) = λ _ z. (let p = run.first z in
      dite (ℕ_discrete p.0 id) (λ e. no_ticket 0 v.stage free (subst
      (λ (y : PassView E). HasTicket 0 y.stage) (one s.views p.0 id p.1 v e p.2 at) p.3.1))
      (λ ne. let z' = bare p.0 p.1 ne p.2 in let y = p.3.0 in absurd (omega arith))) in
      let h = close_slot r.serving r.count s.views r.home id v run.log run.table run.turn at free spent (served refl) run.slot in (
        h.0,
        r.homes ∙ ap (λ (z : Home X E). z ∷ []) h.1,
        subst (stands h.0.object) (sym seen) h.2.0,
        subst (AllRight right) (sym seen) run.in_order,
        λ k l. let a = total-set (λ (u : PassView E). times k u.places) s.views id v newcomer at in
            let z : total (λ (u : PassView E). times k u.places) (set s.views id newcomer) ≡ 0 = total_zero
            (λ (u : PassView E). times k u.places) (set s.views id newcomer) (each_set
            (λ j (u : PassView E). times k u.places ≡ 0) s.views id newcomer refl
            (λ j u ne e. ap (times k) (spent j u ne e).0)) in
            let p = run.places k in let n : length v.history ≡ length run.log = ap length seen in
            let b : one_below k (length run.log) ≡ 1 = subst
            (λ b. one_used b ≡ 1) (sym (lt-ltb k (length run.log) (omega arith))) refl in omega arith,
      )

  pub ended_some : (ws : List ℕ) (xs : List (Option (Kept X E))) (id : ℕ) (v : PassView E) (y : Option (Kept X E))
      (held : Kept X E) → Final (Seen Rule id v) ws xs → v.shares ≡ all_shares → v.stage ≡ Idle → get_elem? xs 0 ≡ some y
      → y ≡ Some held
      → stands held.object v.history × AllRight right v.history × ((k : ℕ) → k < length v.history → 0 < times k v.places)
  ended_some ws xs id v y held f all free at is = let c = closes f.0 f.1.0 id v f.1.1 all free in
      let there = f.4 0 (Some c.0) (ap (λ (hs : List (Home X E)). get_elem? hs 0) c.1) in
      let same : c.0 ≡ held = ap (get_Some c.0) (some-injective (Some c.0) y (sym there ∙ at) ∙ is) in
      (subst (λ (z : Kept X E). stands z.object v.history) same c.2, c.3, c.4)

  pub ended_none : (ws : List ℕ) (xs : List (Option (Kept X E))) (id : ℕ) (v : PassView E) (y : Option (Kept X E))
      → Final (Seen Rule id v) ws xs → v.shares ≡ all_shares → v.stage ≡ Idle → get_elem? xs 0 ≡ some y → y ≡ None → ⊥
  ended_none ws xs id v y f all free at is = let c = closes f.0 f.1.0 id v f.1.1 all free in
      let there = f.4 0 (Some c.0) (ap (λ (hs : List (Home X E)). get_elem? hs 0) c.1) in
      no_truth (sym (ap is_some (some-injective (Some c.0) y (sym there ∙ at) ∙ is)))
