-- Take a ticket.
use Rattle.std.proofs.Common.{◌≡◌, ℕ, ◌+◌, ◌<◌, eqb, List, get_or, set, sym, refl, ap, ◌∙◌, subst, inr, arith, Option, eq-eqb, ne_eqb}
use mathlib.Core.Logic.{dite}
use mathlib.Core.Option.{none, some}
use native.Mathlib.Decide.{ℕ_discrete}
use lib.ListN.{get_elem?}
use prog.Atomic.{either}
use Rattle.atomic_table.specs.Table.{State, step, keeps, stepped, Allows}
use Rattle.ifdb_turn.specs.declared.view.Stage.TheVariants.{Idle, Waiting}
use Rattle.ifdb_turn.specs.declared.view.PassView.{PassView}
use Rattle.ifdb_turn.specs.declared.view.Kept.{Kept}
use Rattle.ifdb_turn.specs.Rule.{Home, Ruled}
use Rattle.ifdb_turn.specs.Kinds.{Mine, took_ticket}
use Rattle.ifdb_turn.proofs.ByPass.{Runs, ruled}
use Rattle.ifdb_turn.proofs.ViewLemmas.{no_ticket, idle, not_first}
use Rattle.ifdb_turn.proofs.Steps.{runs, slot_waits, reseat, unmoved}

module _ {X E : Type 0} (stands : X → List E → Type 0) (right : List E → E → Type 0) (root : E → ℕ) where
  abbrev St : Type 0
  St = State (Option (Kept X E)) (PassView E)

  abbrev M : Type 0
  M = Mine X E

  abbrev Rule : St → Type 0
  Rule = Ruled stands right root

  abbrev Run : ℕ → ℕ → ℕ → Home X E → List (PassView E) → Type 0
  Run = Runs stands right root

  -- a ticket is taken
  ticket_run : (ticket serving count : ℕ) (home : Home X E) (views : List (PassView E)) (id : ℕ) (v : PassView E)
      → Run ticket serving count home views → get_elem? views id ≡ some v → 0 < v.shares → v.stage ≡ Idle
      → ticket + 1 < 18446744073709551616
      → Run (ticket + 1) serving count home (set views id (record v { stage = Waiting ticket }))
  ticket_run ticket serving count home views id v r at share free room = let serves = r.serves in
      reseat stands right root ticket serving count (ticket + 1) serving home home views id v (Waiting ticket) r.turn r at share (omega arith) room (omega arith) (λ e. not_first (Waiting ticket) e tt)
      (λ n e. (omega arith, omega arith)) (λ n e. absurd e) (λ j u ne e n k. let b = (r.each j u e).held n k in
      (b.0, omega arith, λ same. omega arith)) (λ j u ne e. (r.each j u e).turn)
      (λ z. (z, λ k. absurd (no_ticket 0 v.stage free k))) (slot_waits stands right root serving count views home id v (record v { stage = Waiting ticket }) r.log r.table r.turn at (idle v.stage free) tt r.slot)

  -- the rule after a step on the ticket word, with no slot
  tickets_rule : (s : St) (r : Rule s) (id n : ℕ) (cs : List (ℕ × Option (Kept X E))) (w : PassView E)
      → Run n r.serving r.count r.home (set s.views id w) → Rule (stepped s 0 n id cs w keeps)
  tickets_rule s r id n cs w run = record {
    ticket = n;
    serving = r.serving;
    count = r.count;
    home = r.home;
    words = ap (λ (ws : List ℕ). set ws 0 n) r.words;
    homes = r.homes;
    phase = inr (ruled run);
  }

  -- take a ticket
  pub takes_ticket : (slots id : ℕ) (me : M) (old : ℕ) → 0 < me.0.shares → me.0.stage ≡ Idle → old + 1 < 18446744073709551616
      → Allows Rule slots id me 0 (λ x. either (eqb x old) (old + 1) x) (took_ticket (step slots 0 old (old + 1) none) me)
  takes_ticket slots id me old share free room s r _ at _ = let x : ℕ = get_or s.words 0 0 in
      let is : x ≡ r.ticket = ap (λ (ws : List ℕ). get_or ws 0 0) r.words in dite (ℕ_discrete x old)
      (λ hit. let w : PassView E = record me.0 { stage = Waiting old } in let same : r.ticket ≡ old = sym is ∙ hit in
      let run = runs stands right root r.ticket r.serving r.count r.home s.views id me.0 r.phase at share in (
        w,
        keeps,
        tt,
        subst (λ b. Rule (stepped s 0 (either b (old + 1) x) id me.1 w keeps)) (sym (eq-eqb x old hit))
            (tickets_rule s r id (old + 1) me.1 w (subst (λ (z : ℕ). Run (z + 1) r.serving r.count r.home (set s.views id record me.0 { stage = Waiting z })) same (ticket_run r.ticket r.serving r.count r.home s.views id me.0 run at share free (let room' : r.ticket + 1 < 18446744073709551616 = omega arith in room')))),
        (refl, (λ _. (let o = run.opened in let pos : 0 < x = omega arith in pos, refl)), λ miss. absurd (miss hit)),
      ))
      (λ miss. (
        me.0,
        keeps,
        tt,
        subst (λ b. Rule (stepped s 0 (either b (old + 1) x) id me.1 me.0 keeps)) (sym (ne_eqb x old miss)) (unmoved stands right root s r 0 id me.1 me.0 at),
        (refl, (λ hit. absurd (miss hit)), λ _. refl),
      ))
