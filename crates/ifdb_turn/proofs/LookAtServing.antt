-- Look at serving.
use Rattle.std.proofs.Common.{◌≡◌, ◌≢◌, ℕ, ◌+◌, ◌<◌, ◌≤◌, false, List, length, get_or, set, sym, refl, ap, ◌∙◌, subst, inr, arith, Option, Some, None}
use mathlib.Core.Logic.{dite}
use mathlib.Core.Option.{none, some}
use mathlib.Core.Option as maybe
use native.Mathlib.Decide.{ℕ_discrete}
use lib.ListN.{get_elem?}
use lib.Seq.{set-get_or}
use Rattle.atomic_table.specs.Table.{State, step, keeps, takes, Allows}
use Rattle.atomic_table.proofs.Lists.{set_else}
use Rattle.ifdb_turn.specs.declared.view.TableIdentity.{TableIdentity}
use Rattle.ifdb_turn.specs.declared.view.Stage.TheVariants.{Waiting, InTurn}
use Rattle.ifdb_turn.specs.declared.view.PassView.{PassView}
use Rattle.ifdb_turn.specs.declared.view.Kept.{Kept}
use Rattle.ifdb_turn.specs.Views.{HasTicket, IsOutOfTurn}
use Rattle.ifdb_turn.specs.Rule.{Home, Keeps, Ruled}
use Rattle.ifdb_turn.specs.Kinds.{Mine, looked_at_serving}
use Rattle.ifdb_turn.specs.Seats.{SeatOf, IsSameSeat, BeginsTurn}
use Rattle.ifdb_turn.proofs.ByPass.{Runs, Slot, ruled}
use Rattle.ifdb_turn.proofs.ViewLemmas.{here, one, idle_waits, no_turn, number, not_first, no_truth}
use Rattle.ifdb_turn.proofs.HistoryLemmas.{no_length}
use Rattle.ifdb_turn.proofs.Steps.{runs, reseat, unmoved}

module _ {X E : Type 0} (stands : X → List E → Type 0) (right : List E → E → Type 0) (root : E → ℕ) where
  abbrev St : Type 0
  St = State (Option (Kept X E)) (PassView E)

  abbrev M : Type 0
  M = Mine X E

  abbrev Rule : St → Type 0
  Rule = Ruled stands right root

  abbrev Run : ℕ → ℕ → ℕ → Home X E → List (PassView E) → Type 0
  Run = Runs stands right root

  -- look at serving: what the slot has where the turn begins
  turn_content : (ticket serving count : ℕ) (home : Home X E) (views : List (PassView E)) (id : ℕ) (v : PassView E) (log : List E)
      (table : TableIdentity) (turn : maybe.Option ℕ) → get_elem? views id ≡ some v → v.stage ≡ Waiting serving
      → ((i j : ℕ) (u x : PassView E) (n : ℕ) → get_elem? views i ≡ some u → get_elem? views j ≡ some x → HasTicket n u.stage
      → HasTicket n x.stage → i ≡ j)
      → Slot stands log table serving count views home turn
      → (content : Option (Kept X E)) × (home ≡ some content) × (serving ≡ 0 → content ≡ None) × (0 < serving
      → (h : Kept X E) × (content ≡ Some h) × Keeps stands table log h) × (count ≤ serving)
      × ((j : ℕ) (u : PassView E) → get_elem? views j ≡ some u → IsOutOfTurn u.stage)
  turn_content ticket serving count home views id v log table none at waits apart p = dite (ℕ_discrete serving 0)
      (λ z. (None, p.2 z, (λ _. refl), (λ l. absurd (omega arith)), p.1, p.0))
      (λ nz. let h = p.3 (omega arith) in (Some h.0, h.1, (λ z. absurd (nz z)), (λ _. (h.0, refl, h.2)), p.1, p.0))
  turn_content ticket serving count home views id v log table (some i) at waits apart p =
      let is : i ≡ id = apart i id p.0 v serving p.2 at (subst (HasTicket serving) (sym p.3) refl) (subst (HasTicket serving) (sym waits) refl) in
      absurd (no_turn serving p.1 log v.stage (idle_waits serving v.stage waits) (ap
      (λ (z : PassView E). z.stage) (one views id i v p.0 (sym is) at p.2) ∙ p.3))

  -- the turn begins
  turn_run : (ticket serving count : ℕ) (home : Home X E) (views : List (PassView E)) (id : ℕ) (v : PassView E)
      (r : Run ticket serving count home views) → get_elem? views id ≡ some v → 0 < v.shares → v.stage ≡ Waiting serving
      → count ≤ serving
      → ((j : ℕ) (u : PassView E) → get_elem? views j ≡ some u → IsOutOfTurn u.stage)
      → Run ticket serving count none (set views id (record v { stage = InTurn serving false r.log }))
  turn_run ticket serving count home views id v r at share waits few idles = let opened_ = r.opened in
      let mine : (n : ℕ) → serving ≡ n → HasTicket n v.stage = λ n e. subst (HasTicket n) (sym waits) e in
      reseat stands right root ticket serving count ticket serving home none views id v (InTurn serving false r.log) (some id) r at share r.opened r.small r.serves (λ e. not_first (InTurn serving false r.log) e tt)
      (λ n e. (r.each id v at).held n (mine n e)) (λ n e. sym e)
      (λ j u ne e n k. let b = (r.each j u e).held n k in (b.0, b.1, λ same. ne (r.apart j id u v n e at k (mine n same))))
      (λ j u ne e. (r.each j u e).turn)
      (λ z. (z, λ k. subst (HasTicket 0) waits k)) (
        record v { stage = InTurn serving false r.log },
        false,
        here views id v _ at,
        refl,
        (λ e. absurd (no_truth e)),
        (let b : count ≤ serving + 0 = omega arith in b),
        refl,
        λ j u ne e. idles j u (sym (set_else views id j _ ne) ∙ e),
      )

  pub looks : (slots id : ℕ) (me : M) (n : ℕ) → 0 < me.0.shares → me.0.stage ≡ Waiting n
      → Allows Rule slots id me 1 (λ x. x) (looked_at_serving stands right root (step slots 1 0 0 none) me)
  looks slots id me n share waits s r _ at _ = let x : ℕ = get_or s.words 1 0 in
      let is : x ≡ r.serving = ap (λ (ws : List ℕ). get_or ws 1 0) r.words in let serving : ℕ = r.serving in
      let run = runs stands right root r.ticket serving r.count r.home s.views id me.0 r.phase at share in
      dite (ℕ_discrete x n)
      (λ hit. let at_q : me.0.stage ≡ Waiting serving = waits ∙ ap Waiting (sym hit ∙ is) in
      let t = turn_content r.ticket serving r.count r.home s.views id me.0 run.log run.table run.turn at at_q run.apart run.slot in
      let w : PassView E = record me.0 { stage = InTurn serving false run.log } in let f = run.each id me.0 at in
      let named : me.0.table ≡ run.table = f.named share in
      let h = f.held n (subst (HasTicket n) (sym waits) refl) in let small = run.small in
      let length_is : r.count ≡ length run.log = run.count_is in let q_is : serving ≡ n = sym is ∙ hit in
      let below_ : r.count ≤ serving = t.4 in (
        w,
        takes 0 t.0,
        ap (λ (hs : List (Home X E)). get_elem? hs 0) r.homes ∙ ap some t.1,
        record {
          ticket = r.ticket;
          serving = serving;
          count = r.count;
          home = none;
          words = set-get_or s.words 1 0 ∙ r.words;
          homes = ap (λ (hs : List (Home X E)). set hs 0 none) r.homes;
          phase = inr (ruled (turn_run r.ticket serving r.count r.home s.views id me.0 run at share at_q t.4 t.5));
        },
        λ k waits'. let same_n : n ≡ k = ap (number 0) (sym waits ∙ waits') in (
          (let le : x ≤ k = omega arith in le),
          λ hit'. (
            run.log,
            t.0,
            ap (λ (z : ℕ). record me.0 { stage = InTurn z false run.log }) (q_is ∙ same_n),
            refl,
            (λ z. (t.2 (q_is ∙ (same_n ∙ z)), no_length run.log (let z' : length run.log ≡ 0 = omega arith in z'))),
            λ l. let u = t.3 (omega arith) in (
              u.0,
              u.1,
              (
                subst (λ (z : TableIdentity). Keeps stands z run.log u.0) (sym named) u.2,
                f.history,
                run.in_order,
                f.foreign,
                let fits : length run.log < 18446744073709551615 = omega arith in fits,
              ),
            ),
          ),
          λ miss. absurd (miss (hit ∙ same_n)),
        ),
      ))
      (λ miss. (
        me.0,
        keeps,
        tt,
        unmoved stands right root s r 1 id me.1 me.0 at,
        λ k waits'. let same_n : n ≡ k = ap (number 0) (sym waits ∙ waits') in
            let h = (run.each id me.0 at).held n (subst (HasTicket n) (sym waits) refl) in
            ((let le : x ≤ k = omega arith in le), (λ hit. absurd (miss (hit ∙ sym same_n))), λ _. refl),
      ))

  abbrev Tells : ℕ → M → ℕ → SeatOf X E → Type 0
  Tells k before found t = looked_at_serving stands right root (step k 1 0 0 none) before found t.me

  -- the look found the ticket
  pub begun : (k n found : ℕ) (s m t : SeatOf X E) → IsSameSeat s m → m.me ≡ s.me → s.me.0.stage ≡ Waiting n → found ≡ n
      → IsSameSeat m t → Tells k m.me found t → BeginsTurn stands right root n s t
  begun k n found s m t was at waits now is told = (
    (is.0 ∙ was.0, is.1 ∙ was.1),
    (subst
        (λ z. Tells k z found t) at told n waits).1 now,
  )

  -- the look found another one
  pub not_yet : (k n found : ℕ) (s m t : SeatOf X E) → IsSameSeat s m → m.me ≡ s.me → s.me.0.stage ≡ Waiting n → found ≢ n
      → IsSameSeat m t → Tells k m.me found t → IsSameSeat s t × (t.me ≡ s.me)
  not_yet k n found s m t was at waits not is told = (
    (is.0 ∙ was.0, is.1 ∙ was.1),
    (subst
        (λ z. Tells k z found t) at told n waits).2 not,
  )
