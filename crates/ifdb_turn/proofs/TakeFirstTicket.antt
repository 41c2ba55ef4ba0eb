-- Take ticket 0, which the table's first seat does.
use Rattle.std.proofs.Common.{◌≡◌, ◌≢◌, ℕ, eqb, List, [], ◌∷◌, ◌++◌, length, get_or, set, sym, refl, ap, ◌∙◌, subst, ⊎_elim, inr, arith, Option, Some, length-append, eq-eqb}
use mathlib.Core.Option.{none, some}
use lib.ListN.{get_elem?}
use prog.Atomic.{either}
use Rattle.atomic_table.specs.Table.{State, step, keeps, stepped, Allows}
use Rattle.ifdb_turn.specs.declared.view.Stage.TheVariants.{Opening, Idle, Waiting}
use Rattle.ifdb_turn.specs.declared.view.PassView.{PassView}
use Rattle.ifdb_turn.specs.declared.view.Kept.{Kept}
use Rattle.ifdb_turn.specs.Places.{times}
use Rattle.ifdb_turn.specs.Views.{newcomer, opener, all_shares, total, HasTicket, IsOutOfTurn}
use Rattle.ifdb_turn.specs.Rule.{Home, Running, Blank, Ruled}
use Rattle.ifdb_turn.specs.Kinds.{Mine, took_first_ticket}
use Rattle.ifdb_turn.proofs.ByPass.{Fits, Runs, ruled}
use Rattle.ifdb_turn.proofs.Sums.{total-set, total_zero}
use Rattle.ifdb_turn.proofs.ViewLemmas.{each_set, here, no_ticket, idle, not_first}
use Rattle.ifdb_turn.proofs.PlaceLemmas.{one_below-zero}

module _ {X E : Type 0} (stands : X → List E → Type 0) (right : List E → E → Type 0) (root : E → ℕ) where
  abbrev St : Type 0
  St = State (Option (Kept X E)) (PassView E)

  abbrev M : Type 0
  M = Mine X E

  abbrev Rule : St → Type 0
  Rule = Ruled stands right root

  abbrev Run : ℕ → ℕ → ℕ → Home X E → List (PassView E) → Type 0
  Run = Runs stands right root

  -- ticket 0 is taken, by the table's first seat
  open_run : (home : Home X E) (views : List (PassView E)) (id : ℕ) (v w : PassView E)
      (b : Blank stands right root 0 0 0 home views) → get_elem? views id ≡ some v → v ≡ opener
      → w ≡ record { table = w.table; history = []; earlier = []; places = []; shares = all_shares; stage = Waiting 0 }
      → Run 1 0 0 home (set views id record { table = w.table; history = []; earlier = []; places = []; shares = all_shares; stage = Waiting 0 })
  open_run home views id v w b at first is =
      let N : PassView E = record { table = w.table; history = []; earlier = []; places = []; shares = all_shares; stage = Waiting 0 } in
      let begun : v.stage ≡ Opening = ap (λ (z : PassView E). z.stage) first in
      let others : (j : ℕ) (u : PassView E) → j ≢ id → get_elem? views j ≡ some u → u ≡ newcomer = λ j u ne a. ⊎_elim
      (λ (e : u ≡ newcomer). e) (λ (e : u ≡ opener). absurd (ne (b.one j id u v a at (ap
      (λ (z : PassView E). z.stage) e) begun))) (b.each j u a) in
      let none_of : (f : PassView E → ℕ) → f newcomer ≡ 0 → f opener ≡ 0 → total f views ≡ 0 = λ f z z'. total_zero f views
      (λ j u a. ⊎_elim (λ (e : u ≡ newcomer). ap f e ∙ z) (λ (e : u ≡ opener). ap f e ∙ z') (b.each j u a)) in
      let plain : Fits root [] w.table 1 0 newcomer = record {
        history = ([], refl);
        before = (
          [],
          refl,
        );
        places = λ _ _. refl;
        rises = tt;
        foreign = λ _ _ _ _. refl;
        held = λ n h. absurd h;
        turn = λ n h. absurd h;
        named = λ l. absurd (omega arith);
        spent = λ _. (refl, refl);
        later = λ e. not_first Idle e tt;
      } in
      let only : (m j : ℕ) (u : PassView E) → get_elem? (set views id N) j ≡ some u → HasTicket m u.stage → j ≡ id = λ m. each_set (λ j u. HasTicket m u.stage → j ≡ id) views id N (λ _. refl) (λ j u ne a h. absurd (no_ticket m u.stage (ap (λ (z : PassView E). z.stage) (others j u ne a)) h)) in
      record {
        log = [];
        table = w.table;
        turn = none;
        opened = omega arith;
        small = omega arith;
        count_is = refl;
        in_order = λ d e p. (let n : length ((d ++ e ∷ []) ++ p.0) ≡ 0 = ap length p.1 in
            let m = length-append (d ++ e ∷ []) p.0 in let o = length-append d (e ∷ []) in absurd (omega arith));
        serves = omega arith;
        each = each_set (λ j u. Fits root [] w.table 1 0 u) views id N
            record {
              history = ([], refl);
              before =
                  ([], refl);
              places = λ _ _. refl;
              rises = tt;
              foreign = λ _ _ _ _. refl;
              held = λ n h. let z : 0 ≡ n = h in
                  (omega arith, omega arith);
              turn = λ n h. absurd h;
              named = λ _. refl;
              spent = λ z. absurd (omega arith);
              later = λ e. not_first (Waiting 0) e tt;
            }
            (λ j u ne a. subst (Fits root [] w.table 1 0) (sym (others j u ne a)) plain);
        apart = λ i j u x m a b' h h'. only m i u a h ∙ sym (only m j x b' h');
        shares = let a = total-set (λ (u : PassView E). u.shares) views id v N at in let z = none_of (λ u. u.shares) refl refl in
            let y : v.shares ≡ 0 = ap (λ (z : PassView E). z.shares) first in omega arith;
        places = λ k. (let a = total-set (λ (u : PassView E). times k u.places) views id v N at in
            let z = none_of (λ u. times k u.places) refl refl in
            let y : times k v.places ≡ 0 = ap (λ (z : PassView E). times k z.places) first in let o = one_below-zero k in
            omega arith);
        whole = (id, N, here views id v N at, (omega arith, refl));
        first = λ _. (id, N, here views id v N at, (refl, refl));
        slot = (
          each_set (λ j u. IsOutOfTurn u.stage) views id N tt (λ j u ne a. idle u.stage (ap
              (λ (z : PassView E). z.stage) (others j u ne a))),
          omega arith,
          (λ _. b.slot),
          λ l. absurd (omega arith),
        );
      }

  pub opens : (slots id : ℕ) (me : M) (h : Kept X E) → me.0 ≡ opener
      → Allows Rule slots id me 0 (λ x. either (eqb x 0) 1 x) (took_first_ticket (step slots 0 0 1 (some (Some h))) me)
  opens slots id me h new s r _ at _ = let x : ℕ = get_or s.words 0 0 in
      let is : x ≡ r.ticket = ap (λ (ws : List ℕ). get_or ws 0 0) r.words in
      let w : PassView E = record { table = record { id = h.witness.table_id }; history = []; earlier = []; places = []; shares = all_shares; stage = Waiting 0 } in ⊎_elim
      (λ (b : Blank stands right root r.ticket r.serving r.count r.home s.views). let z : x ≡ 0 = is ∙ b.words.0 in (
        w,
        keeps,
        tt,
        subst (λ c. Rule (stepped s 0 (either c 1 x) id me.1 w keeps)) (sym (eq-eqb x 0 z)) record {
          ticket = 1;
          serving = 0;
          count = 0;
          home = r.home;
          words = ap (λ (ws : List ℕ). set ws 0 1) r.words ∙ (λ i. 1 ∷ b.words.1 i ∷ b.words.2 i ∷ []);
          homes = r.homes;
          phase = inr (ruled (open_run r.home s.views id me.0 w (subst
              (λ (y : ℕ × ℕ × ℕ). Blank stands right root y.0 y.1 y.2 r.home s.views)
              (λ i. (b.words.0 i, b.words.1 i, b.words.2 i)) b) at new refl));
        },
        (refl, refl),
      ))
      (λ (run : Running stands right root r.ticket r.serving r.count r.home s.views). absurd (run.opened.1 id me.0 at (ap
      (λ (z : PassView E). z.stage) new))) r.phase
