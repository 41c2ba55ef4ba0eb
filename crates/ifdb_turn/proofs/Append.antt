-- Append an entry.
use Rattle.std.proofs.Common.{◌≡◌, ◌≢◌, ℕ, ◌+◌, ◌^◌, ◌%◌, ◌<◌, ◌≤◌, ◌⊎◌, true, false, List, [], ◌∷◌, ◌++◌, length, get_or, set, sym, refl, ap, ◌∙◌, subst, ⊎_elim, inr, arith, Option, Some, length-append, append-nil}
use mathlib.Core.Option.{none, some}
use native.Mathlib.Decide.{dec_lt}
use lib.ListN.{get_elem?}
use Rattle.atomic_table.specs.Table.{State, step, keeps, Allows}
use Rattle.atomic_table.proofs.Lists.{set_else, at_snoc}
use Rattle.ifdb_turn.specs.declared.view.Stage.TheVariants.{InTurn}
use Rattle.ifdb_turn.specs.declared.view.PassView.{PassView}
use Rattle.ifdb_turn.specs.declared.view.Kept.{Kept}
use Rattle.ifdb_turn.specs.Histories.{AllRight}
use Rattle.ifdb_turn.specs.Places.{one_below, times}
use Rattle.ifdb_turn.specs.Views.{all_shares, total, HasTicket}
use Rattle.ifdb_turn.specs.Rule.{Home, Ruled}
use Rattle.ifdb_turn.specs.Kinds.{Mine, after_append, appended}
use Rattle.ifdb_turn.proofs.ByPass.{Fits, Runs, ruled}
use Rattle.ifdb_turn.proofs.Sums.{total-set, total-same, total_two}
use Rattle.ifdb_turn.proofs.ViewLemmas.{each_set, below, here, find_set, number, not_first}
use Rattle.ifdb_turn.proofs.PlaceLemmas.{one_if-other, times-snoc, rises_snoc, one_below-most, one_below-more}
use Rattle.ifdb_turn.proofs.HistoryLemmas.{get_Some, prefix_length, prefix-snoc, right-snoc}
use Rattle.ifdb_turn.proofs.Steps.{runs, holder}

module _ {X E : Type 0} (stands : X → List E → Type 0) (right : List E → E → Type 0) (root : E → ℕ) where
  abbrev St : Type 0
  St = State (Option (Kept X E)) (PassView E)

  abbrev M : Type 0
  M = Mine X E

  abbrev Rule : St → Type 0
  Rule = Ruled stands right root

  abbrev Run : ℕ → ℕ → ℕ → Home X E → List (PassView E) → Type 0
  Run = Runs stands right root

  abbrev Rooted : E → PassView E → Type 0
  Rooted e v = (root e ≡ length v.history) ⊎ (0 < times (root e) v.places)

  append_run : (ticket serving count : ℕ) (home : Home X E) (views : List (PassView E)) (id : ℕ) (v : PassView E) (n : ℕ) (e : E)
      (r : Run ticket serving count home views) → get_elem? views id ≡ some v → 0 < v.shares → v.stage ≡ InTurn n false v.history
      → right v.history e → Rooted e v → Run ticket serving (count + 1) home (set views id (after_append v n e))
  append_run ticket serving count home views id v n e r at share turn ok rooted =
      let k = holder stands right root serving count views home id v r.log v.history r.table r.turn n false at turn r.slot in
      let L : List E = v.history in let w : PassView E = after_append v n e in
      let is : r.log ≡ L = sym k.1 in let fits : (j : ℕ) (u : PassView E) → get_elem? views j ≡ some u → Fits root L r.table ticket serving u = λ j u a. subst (λ l. Fits root l r.table ticket serving u) is (r.each j u a) in
      let f = fits id v at in let len : length (L ++ e ∷ []) ≡ length L + 1 = length-append L (e ∷ []) in
      let places : (x : ℕ) → total (λ (u : PassView E). times x u.places) views ≡ one_below x (length L) = λ x. r.places x ∙ ap
      (λ l. one_below x (length l)) is in
      let ticks : (m : ℕ) → n ≡ m → HasTicket m v.stage = λ m h. subst (HasTicket m) (sym turn) h in
      let back : (m j : ℕ) (u : PassView E) → get_elem? (set views id w) j ≡ some u → HasTicket m u.stage → (x : PassView E) × (get_elem? views j ≡ some x) × HasTicket m x.stage =
      λ m. each_set (λ j u. HasTicket m u.stage → (x : PassView E) × (get_elem? views j ≡ some x) × HasTicket m x.stage) views id w (λ h. (v, at, ticks m h)) (λ j u _ a h. (u, a, h)) in
      let rootless : (j : ℕ) (u : PassView E) → j ≢ id → get_elem? views j ≡ some u → times (root e) u.places ≡ 0 = λ j u ne a. ⊎_elim
      (λ (z : root e ≡ length L). (fits j u a).places (root e) (let m = prefix_length u.history L (fits j u a).history in
      omega arith))
      (λ (z : 0 < times (root e) v.places). let two = total_two
      (λ (u : PassView E). times (root e) u.places) views id j v u ne at a in let p = places (root e) in
      let m = one_below-most (root e) (length L) in omega arith) rooted in record {
        log = L ++ e ∷ [];
        table = r.table;
        turn = some id;
        opened = r.opened;
        small = r.small;
        count_is = let c' = r.count_is ∙ ap length is in omega arith;
        in_order = right-snoc right L e (subst (AllRight right) is r.in_order) ok;
        serves = r.serves;
        each = each_set (λ j u. Fits root (L ++ e ∷ []) r.table ticket serving u) views id w
            record {
              history = ([], append-nil (L ++ e ∷ []));
              before = prefix-snoc v.earlier v.history e f.before;
              places = λ x le. (let a = f.places x (omega arith) in let b = times-snoc x v.places (length L) in
                  let o = one_if-other x (length L) (λ z. omega arith) in omega arith);
              rises = rises_snoc 0 (length L) v.places f.rises (omega arith) f.places;
              foreign = λ x d le a. (let b = below (L ++ e ∷ []) x d a in absurd (omega arith));
              held = λ m h. f.held m (ticks m h);
              turn = λ m h. sym h ∙ k.0;
              named = f.named;
              spent = λ z. absurd (omega arith);
              later = λ z. not_first (InTurn n true (L ++ e ∷ [])) z tt;
            }
            (λ j u ne a. let g = fits j u a in record {
              history = prefix-snoc u.history L e g.history;
              before = g.before;
              places = g.places;
              rises = g.rises;
              foreign = λ x d le b. ⊎_elim (λ (h : get_elem? L x ≡ some d). g.foreign x d le h) (λ (h : e ≡ d). subst
                  (λ (z : E). times (root z) u.places ≡ 0) h (rootless j u ne a)) (at_snoc L e d x b);
              held = g.held;
              turn = g.turn;
              named = g.named;
              spent = g.spent;
              later = g.later;
            });
        apart = λ i j u x m a b h h'. (let y = back m i u a h in
            let z = back m j x b h' in r.apart i j y.0 z.0 m y.1 z.1 y.2 z.2);
        shares = total-same (λ v. v.shares) views id v w at refl ∙ r.shares;
        places = λ x. (let a = total-set (λ (u : PassView E). times x u.places) views id v w at in
            let b = times-snoc x v.places (length L) in let p = places x in
            let m = one_below-more x (length L) (dec_lt x (length L)) in
            let same_ : one_below x (length (L ++ e ∷ [])) ≡ one_below x (length L + 1) = ap (one_below x) len in omega arith);
        whole = (id, w, here views id v w at, (share, refl));
        first = λ z. find_set (λ u. (u.shares ≡ all_shares) × HasTicket 0 u.stage) views id v w at
            (λ h. (h.0, subst (HasTicket 0) turn h.1)) (r.first z);
        slot = (
          w,
          true,
          here views id v w at,
          ap (λ (z : ℕ). InTurn z true (L ++ e ∷ [])) k.0,
          (λ _. refl),
          (let a : count ≤ serving + 0 = k.3 in
              let b : count + 1 ≤ serving + 1 = omega arith in b),
          k.4,
          λ j u ne a. k.5 j u ne (sym (set_else views id j w ne) ∙ a),
        );
      }

  append_at : (e : E) (slots id : ℕ) (me : M) (n : ℕ) → 0 < me.0.shares → me.0.stage ≡ InTurn n false me.0.history
      → right me.0.history e → Rooted e me.0
      → Allows Rule slots id me 2 (λ x. (x + 1) % 2 ^ 64) (appended (Some e) (step slots 2 1 0 none) me)
  append_at e slots id me n share turn ok rooted s r _ at _ = let x : ℕ = get_or s.words 2 0 in
      let is : x ≡ r.count = ap (λ (ws : List ℕ). get_or ws 2 0) r.words in let serving : ℕ = r.serving in
      let run = runs stands right root r.ticket serving r.count r.home s.views id me.0 r.phase at share in
      let f = run.each id me.0 at in let now = f.held n (subst (HasTicket n) (sym turn) refl) in
      let k = holder stands right root serving r.count s.views r.home id me.0 run.log me.0.history run.table run.turn n false at turn run.slot in
      let n_is : n ≡ serving = k.0 in let small = run.small in let few : r.count ≤ serving + 0 = k.3 in
      let next : (x + 1) % 18446744073709551616 ≡ r.count + 1 = omega arith in (
        after_append me.0 n e,
        keeps,
        tt,
        record {
          ticket = r.ticket;
          serving = serving;
          count = r.count + 1;
          home = r.home;
          words = ap (λ (ws : List ℕ). set ws 2 ((x + 1) % 18446744073709551616)) r.words ∙ ap
              (λ (z : ℕ). r.ticket ∷ serving ∷ z ∷ []) next;
          homes = r.homes;
          phase = inr (ruled (append_run r.ticket serving r.count r.home s.views id me.0 n e run at share turn ok rooted));
        },
        (
          refl,
          λ m d turn' noted. let same_e : e ≡ d = ap (get_Some e) noted in
              let same_n : n ≡ m = ap (number 0) (sym turn ∙ turn') in (λ i. after_append me.0 (same_n i) (same_e i)),
        ),
      )

  pub appends : (entry : Option E) (e : E) (slots id : ℕ) (me : M) (n : ℕ) → 0 < me.0.shares
      → me.0.stage ≡ InTurn n false me.0.history → entry ≡ Some e → right me.0.history e → Rooted e me.0
      → Allows Rule slots id me 2 (λ x. (x + 1) % 2 ^ 64) (appended entry (step slots 2 1 0 none) me)
  appends entry e slots id me n share turn is ok rooted = subst (λ z. Allows Rule slots id me 2
      (λ x. (x + 1) % 2 ^ 64) (appended z (step slots 2 1 0 none) me)) (sym is) (append_at e slots id me n share turn ok rooted)
