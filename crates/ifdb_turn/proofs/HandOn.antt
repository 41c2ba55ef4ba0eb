-- Hand on: the turn ends.
use Rattle.std.proofs.Common.{◌≡◌, ◌≢◌, ℕ, ◌+◌, ◌^◌, ◌%◌, ◌<◌, ◌≤◌, Bool, true, false, List, [], ◌∷◌, get_or, set, sym, refl, ap, ◌∙◌, subst, inr, arith, Option, Some}
use mathlib.Core.Option.{none, some}
use lib.ListN.{get_elem?}
use Rattle.atomic_table.specs.Table.{State, step, gives, put_back, rest, Allows}
use Rattle.ifdb_turn.specs.declared.view.TableIdentity.{TableIdentity}
use Rattle.ifdb_turn.specs.declared.view.Stage.TheVariants.{Idle, InTurn}
use Rattle.ifdb_turn.specs.declared.view.PassView.{PassView}
use Rattle.ifdb_turn.specs.declared.view.Kept.{Kept}
use Rattle.ifdb_turn.specs.Views.{HasTicket, IsOutOfTurn}
use Rattle.ifdb_turn.specs.Rule.{Home, Keeps, Ruled}
use Rattle.ifdb_turn.specs.Kinds.{Mine, handed_on}
use Rattle.ifdb_turn.proofs.ByPass.{Runs, one_used, ruled}
use Rattle.ifdb_turn.proofs.ViewLemmas.{each_set, idle_turn, not_first}
use Rattle.ifdb_turn.proofs.Steps.{runs, reseat, holder, sound}

module _ {X E : Type 0} (stands : X → List E → Type 0) (right : List E → E → Type 0) (root : E → ℕ) where
  abbrev St : Type 0
  St = State (Option (Kept X E)) (PassView E)

  abbrev M : Type 0
  M = Mine X E

  abbrev Rule : St → Type 0
  Rule = Ruled stands right root

  abbrev Run : ℕ → ℕ → ℕ → Home X E → List (PassView E) → Type 0
  Run = Runs stands right root

  -- the turn ends
  hand_run : (ticket serving count : ℕ) (home : Home X E) (views : List (PassView E)) (id : ℕ) (v : PassView E) (n : ℕ)
      (used : Bool) (h : Kept X E) (r : Run ticket serving count home views) → get_elem? views id ≡ some v → 0 < v.shares
      → v.stage ≡ InTurn n used v.history
      → Keeps stands v.table v.history h → Run ticket (serving + 1) count (some (Some h))
      (set views id (record v { stage = Idle }))
  hand_run ticket serving count home views id v n used h r at share turn kept =
      let k = holder stands right root serving count views home id v r.log v.history r.table r.turn n used at turn r.slot in
      let f = r.each id v at in
      let now = f.held n (subst (HasTicket n) (sym turn) refl) in let named : v.table ≡ r.table = f.named share in
      let n_is : n ≡ serving = k.0 in let mine : HasTicket serving v.stage = subst (HasTicket serving) (sym turn) n_is in
      let most : one_used used ≤ 1 = elim used as (λ b. one_used b ≤ 1) [ true ↦ omega arith | false ↦ omega arith ] in
      let few : count ≤ serving + one_used used = k.3 in
      reseat stands right root ticket serving count ticket (serving + 1) home (some (Some h)) views id v Idle none r at share r.opened r.small (omega arith) (λ e. not_first Idle e tt)
      (λ n e. absurd e) (λ n e. absurd e)
      (λ j u ne e m tick. let b = (r.each j u e).held m tick in
      let other : m ≢ serving = λ is. ne (r.apart j id u v serving e at (subst (λ (z : ℕ). HasTicket z u.stage) is tick) mine) in
      (omega arith, b.1, λ x. x))
      (λ j u ne e m tick. absurd (idle_turn m u.stage (k.5 j u ne e) tick))
      (λ z. absurd (omega arith)) (
        each_set (λ j u. IsOutOfTurn u.stage) views id (record v { stage = Idle }) tt (λ j u ne e. k.5 j u ne e),
        omega arith,
        (λ z. absurd (omega arith)),
        λ _. (
          h,
          refl,
          subst (λ (z : TableIdentity × List E). Keeps stands z.0 z.1 h)
              (λ i. (named i, k.1 i)) kept,
        ),
      )

  pub hands : (slots id : ℕ) (me : M) (n : ℕ) (used : Bool) (h : Kept X E) → 0 < me.0.shares
      → me.0.stage ≡ InTurn n used me.0.history → me.1 ≡ (0, Some h) ∷ [] → Keeps stands me.0.table me.0.history h
      → Allows Rule slots id me 1 (λ x. (x + 1) % 2 ^ 64) (handed_on right (step slots 1 1 0 none) me)
  hands slots id me n used h share turn carries kept s r _ at _ = let x : ℕ = get_or s.words 1 0 in
      let is : x ≡ r.serving = ap (λ (ws : List ℕ). get_or ws 1 0) r.words in let serving : ℕ = r.serving in
      let run = runs stands right root r.ticket serving r.count r.home s.views id me.0 r.phase at share in
      let f = run.each id me.0 at in let now = f.held n (subst (HasTicket n) (sym turn) refl) in
      let k = holder stands right root serving r.count s.views r.home id me.0 run.log me.0.history run.table run.turn n used at turn run.slot in
      let n_is : n ≡ serving = k.0 in let small = run.small in
      let next : (x + 1) % 18446744073709551616 ≡ serving + 1 = omega arith in (
        record me.0 { stage = Idle },
        gives,
        tt,
        record {
          ticket = r.ticket;
          serving = serving + 1;
          count = r.count;
          home = some (Some h);
          words = ap (λ (ws : List ℕ). set ws 1 ((x + 1) % 18446744073709551616)) r.words ∙ ap
              (λ (z : ℕ). r.ticket ∷ z ∷ r.count ∷ []) next;
          homes = ap (put_back s.homes) carries ∙ ap (λ (hs : List (Home X E)). set hs 0 (some (Some h))) r.homes;
          phase = inr (ruled (hand_run r.ticket serving r.count r.home s.views id me.0 n used h run at share turn kept));
        },
        (refl, ap rest carries, sound stands right root r.ticket serving r.count r.home s.views id me.0 run at),
      )
