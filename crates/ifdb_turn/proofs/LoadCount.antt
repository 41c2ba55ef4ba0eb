-- Load the count.
use Rattle.std.proofs.Common.{ℕ, ◌<◌, List, length, get_or, sym, refl, ap, ◌∙◌, subst, Option}
use mathlib.Core.Option.{none}
use mathlib.Core.List.{IsPrefix}
use Rattle.atomic_table.specs.Table.{State, step, keeps, Allows}
use Rattle.ifdb_turn.specs.declared.view.PassView.{PassView}
use Rattle.ifdb_turn.specs.declared.view.Kept.{Kept}
use Rattle.ifdb_turn.specs.Rule.{Home, Ruled}
use Rattle.ifdb_turn.specs.Kinds.{Mine, loaded_count}
use Rattle.ifdb_turn.proofs.ByPass.{Runs}
use Rattle.ifdb_turn.proofs.Steps.{runs, unmoved, holder, sound}

module _ {X E : Type 0} (stands : X → List E → Type 0) (right : List E → E → Type 0) (root : E → ℕ) where
  abbrev St : Type 0
  St = State (Option (Kept X E)) (PassView E)

  abbrev M : Type 0
  M = Mine X E

  abbrev Rule : St → Type 0
  Rule = Ruled stands right root

  abbrev Run : ℕ → ℕ → ℕ → Home X E → List (PassView E) → Type 0
  Run = Runs stands right root

  pub counts : (slots id : ℕ) (me : M) → 0 < me.0.shares
      → Allows Rule slots id me 2 (λ x. x) (loaded_count right (step slots 2 0 0 none) me)
  counts slots id me share s r _ at _ =
      let run = runs stands right root r.ticket r.serving r.count r.home s.views id me.0 r.phase at share in (
        me.0,
        keeps,
        tt,
        unmoved stands right root s r 2 id me.1 me.0 at,
        (
          refl,
          sound stands right root r.ticket r.serving r.count r.home s.views id me.0 run at,
          λ n used log turn. let k = holder stands right root r.serving r.count s.views r.home id me.0 run.log log run.table run.turn n used at turn run.slot in (
            ap (λ (ws : List ℕ). get_or ws 2 0) r.words ∙ (run.count_is
                ∙ ap length (sym k.1)),
            subst (IsPrefix me.0.history) (sym k.1) (run.each id me.0 at).history,
          ),
          (run.each id me.0 at).before,
        ),
      )
