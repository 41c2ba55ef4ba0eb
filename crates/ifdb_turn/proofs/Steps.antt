-- What the proofs of several kinds of step share.
use Rattle.std.proofs.Common.{◌≡◌, ◌≢◌, ℕ, ◌+◌, ◌<◌, ◌≤◌, ◌⊎◌, Bool, true, List, [], ◌∷◌, ◌++◌, get_or, set, sym, refl, ap, ◌∙◌, subst, ⊎_elim, arith, Option, append_assoc}
use mathlib.Core.Logic.{dite}
use mathlib.Core.Option.{none, some}
use mathlib.Core.Option as maybe
use native.Mathlib.Decide.{ℕ_discrete}
use lib.ListN.{get_elem?}
use lib.Seq.{set-get_or}
use Rattle.atomic_table.specs.Table.{State, keeps, stepped}
use Rattle.atomic_table.proofs.Lists.{set_again, at_snoc, at_longer}
use Rattle.ifdb_turn.specs.declared.view.TableIdentity.{TableIdentity}
use Rattle.ifdb_turn.specs.declared.view.Stage.{Stage}
use Rattle.ifdb_turn.specs.declared.view.Stage.TheVariants.{Opening, InTurn}
use Rattle.ifdb_turn.specs.declared.view.PassView.{PassView}
use Rattle.ifdb_turn.specs.declared.view.Kept.{Kept}
use Rattle.ifdb_turn.specs.Places.{times}
use Rattle.ifdb_turn.specs.Views.{newcomer, opener, all_shares, HasTicket, HasTurn, IsOutOfTurn}
use Rattle.ifdb_turn.specs.Rule.{Home, Running, Blank, Ruled}
use Rattle.ifdb_turn.specs.Kinds.{Mine, IsOrderlyView}
use Rattle.ifdb_turn.proofs.ByPass.{Fits, Runs, Slot, one_used, by_pass}
use Rattle.ifdb_turn.proofs.Sums.{total-same}
use Rattle.ifdb_turn.proofs.ViewLemmas.{each_set, here, else, one, find_set, each_snoc, no_turn, number, used_of, whole_of}

module _ {X E : Type 0} (stands : X → List E → Type 0) (right : List E → E → Type 0) (root : E → ℕ) where
  abbrev St : Type 0
  St = State (Option (Kept X E)) (PassView E)

  abbrev M : Type 0
  M = Mine X E

  abbrev Rule : St → Type 0
  Rule = Ruled stands right root

  abbrev Run : ℕ → ℕ → ℕ → Home X E → List (PassView E) → Type 0
  Run = Runs stands right root

  -- a view that has a share is that of a running table
  pub runs : (ticket serving count : ℕ) (home : Home X E) (views : List (PassView E)) (id : ℕ) (v : PassView E)
      → Blank stands right root ticket serving count home views ⊎ Running stands right root ticket serving count home views
      → get_elem? views id ≡ some v → 0 < v.shares → Run ticket serving count home views
  runs ticket serving count home views id v p at share = ⊎_elim
      (λ (b : Blank stands right root ticket serving count home views). let none_yet : v.shares ≡ 0 = ⊎_elim
      (λ (e : v ≡ newcomer). ap (λ (z : PassView E). z.shares) e) (λ (e : v ≡ opener). ap
      (λ (z : PassView E). z.shares) e) (b.each id v at) in absurd (omega arith)) by_pass p

  -- a view that has not the turn before or after leaves the slot alone
  pub slot_waits : (serving count : ℕ) (views : List (PassView E)) (home : Home X E) (id : ℕ) (v w : PassView E) (log : List E)
      (table : TableIdentity) (turn : maybe.Option ℕ) → get_elem? views id ≡ some v → IsOutOfTurn v.stage → IsOutOfTurn w.stage
      → Slot stands log table serving count views home turn → Slot stands log table serving count (set views id w) home turn
  slot_waits serving count views home id v w log table none at was now p = (
    each_set (λ j u. IsOutOfTurn u.stage) views id w now
        (λ j u _ e. p.0 j u e),
    p.1,
    p.2,
    p.3,
  )
  slot_waits serving count views home id v w log table (some i) at was now p =
      let apart : i ≢ id = λ is. no_turn serving p.1 log v.stage was (ap
      (λ (z : PassView E). z.stage) (one views id i v p.0 (sym is) at p.2) ∙ p.3) in (
        p.0,
        p.1,
        else views id i p.0 w apart p.2,
        p.3,
        p.4,
        p.5,
        p.6,
        λ j u ne e. each_set
            (λ j u. j ≢ i → IsOutOfTurn u.stage) views id w (λ _. now) (λ j u _ e ne. p.7 j u ne e) j u e ne,
      )

  -- a view keeps all but its hold
  pub reseat : (ticket serving count ticket' serving' : ℕ) (home home' : Home X E) (views : List (PassView E)) (id : ℕ)
      (v : PassView E) (h : Stage E) (turn' : maybe.Option ℕ) (r : Run ticket serving count home views)
      → get_elem? views id ≡ some v → 0 < v.shares
      → 0 < ticket' → ticket' < 18446744073709551616 → serving' ≤ ticket' → (h ≡ Opening → ⊥)
      → ((n : ℕ) → HasTicket n h → (serving' ≤ n) × (n < ticket')) → ((n : ℕ) → HasTurn n h → n ≡ serving')
      → ((j : ℕ) (u : PassView E) → j ≢ id → get_elem? views j ≡ some u → (n : ℕ) → HasTicket n u.stage
      → (serving' ≤ n) × (n < ticket') × ¬ HasTicket n h)
      → ((j : ℕ) (u : PassView E) → j ≢ id → get_elem? views j ≡ some u → (n : ℕ) → HasTurn n u.stage → n ≡ serving')
      → (serving' ≡ 0 → (serving ≡ 0) × (HasTicket 0 v.stage → HasTicket 0 h))
      → Slot stands r.log r.table serving' count (set views id (record v { stage = h })) home' turn'
      → Run ticket' serving' count home' (set views id (record v { stage = h }))
  reseat ticket serving count ticket' serving' home home' views id v h turn' r at share open_ small serves later held turns others others_turn first slot = let w : PassView E = record v { stage = h } in
      let f = r.each id v at in record {
        log = r.log;
        table = r.table;
        turn = turn';
        opened = open_;
        small = small;
        count_is = r.count_is;
        in_order = r.in_order;
        serves = serves;
        each = each_set (λ j u. Fits root r.log r.table ticket' serving' u) views id w
            record { history = f.history; before = f.before; places = f.places; rises = f.rises; foreign = f.foreign; held = held; turn = turns; named = f.named; spent = λ z. absurd (omega arith); later = later }
            (λ j u ne e. let g = r.each j u e in
            record {
              history = g.history;
              before = g.before;
              places = g.places;
              rises = g.rises;
              foreign = g.foreign;
              held = λ n k. let o = others j u ne e n k in
                  (o.0, o.1);
              turn = others_turn j u ne e;
              named = g.named;
              spent = g.spent;
              later = g.later;
            });
        apart = λ i j u x n a b. each_set (λ i u. HasTicket n u.stage → HasTicket n x.stage → i ≡ j) views id w
            (λ e. each_set (λ j x. HasTicket n x.stage → id ≡ j) views id w (λ _. refl)
            (λ j x ne at' k. absurd ((others j x ne at' n k).2 e)) j x b)
            (λ i u ne at' k. each_set (λ j x. HasTicket n x.stage → i ≡ j) views id w (λ e. absurd ((others i u ne at' n k).2 e))
            (λ j x _ at'' k'. r.apart i j u x n at' at'' k k') j x b)
            i u a;
        shares = total-same (λ v. v.shares) views id v w at refl ∙ r.shares;
        places = λ k. total-same (λ v. times k v.places) views id v w at refl ∙ r.places k;
        whole = find_set (λ u. (0 < u.shares) × (u.history ≡ r.log)) views id v w at (λ h. h) r.whole;
        first = λ z. find_set (λ u. (u.shares ≡ all_shares) × HasTicket 0 u.stage) views id v w at
            (λ h. (h.0, (first z).1 h.1)) (r.first (first z).0);
        slot = slot;
      }

  -- a step that changes nothing
  pub unmoved : (s : St) (r : Rule s) (i id : ℕ) (cs : List (ℕ × Option (Kept X E))) (v : PassView E)
      → get_elem? s.views id ≡ some v → Rule (stepped s i (get_or s.words i 0) id cs v keeps)
  unmoved s r i id cs v at = subst (λ (z : List ℕ × List (PassView E)). Rule record { words = z.0; homes = s.homes; views = z.1 }) (λ k. (sym (set-get_or s.words i 0) k, sym (set_again s.views id v at) k)) r

  -- the seat with the turn has the slot, and knows the whole history
  pub holder : (serving count : ℕ) (views : List (PassView E)) (home : Home X E) (id : ℕ) (v : PassView E) (log whole : List E)
      (table : TableIdentity) (turn : maybe.Option ℕ) (n : ℕ) (used : Bool) → get_elem? views id ≡ some v
      → v.stage ≡ InTurn n used whole
      → Slot stands log table serving count views home turn
      → (n ≡ serving) × (whole ≡ log) × (used ≡ true
      → v.history ≡ log) × (count ≤ serving + one_used used) × (home ≡ none) × ((j : ℕ) (w : PassView E) → j ≢ id
      → get_elem? views j ≡ some w → IsOutOfTurn w.stage)
  holder serving count views home id v log whole table none n used at is p = absurd (no_turn n used whole v.stage (p.0 id v at) is)
  holder serving count views home id v log whole table (some i) n used at is p = dite (ℕ_discrete id i)
      (λ e. let same = one views i id p.0 v (sym e) p.2 at in
      let holds : InTurn n used whole ≡ InTurn serving p.1 log = sym is ∙ (ap (λ (z : PassView E). z.stage) (sym same) ∙ p.3) in
      let b : used ≡ p.1 = ap used_of holds in (
        ap (number 0) holds,
        ap whole_of holds,
        (λ u. ap (λ (z : PassView E). z.history) (sym same) ∙ p.4 (sym b ∙ u)),
        subst (λ z. count ≤ serving + one_used z) (sym b) p.5,
        p.6,
        λ j w ne. p.7 j w (λ h. ne (h ∙ sym e)),
      ))
      (λ ne. absurd (no_turn n used whole v.stage (p.7 id v ne at) is))

  pub sound : (ticket serving count : ℕ) (home : Home X E) (views : List (PassView E)) (id : ℕ) (v : PassView E)
      (r : Run ticket serving count home views) → get_elem? views id ≡ some v → IsOrderlyView right v
  sound ticket serving count home views id v r at = let f = r.each id v at in (
    λ b e p. r.in_order b e (
      p.0 ++ f.history.0,
      sym (append_assoc (b ++ e ∷ []) p.0 f.history.0) ∙ (ap
          (λ l. l ++ f.history.0) p.1 ∙ f.history.1),
    ),
    f.rises,
    f.places,
  )

  pub slot_more : (log : List E) (table : TableIdentity) (serving count : ℕ) (views : List (PassView E)) (home : Home X E)
      (w : PassView E) (turn : maybe.Option ℕ) → IsOutOfTurn w.stage → Slot stands log table serving count views home turn
      → Slot stands log table serving count (views ++ w ∷ []) home turn
  slot_more log table serving count views home w none now p = (
    each_snoc
        (λ u. IsOutOfTurn u.stage) views w now p.0,
    p.1,
    p.2,
    p.3,
  )
  slot_more log table serving count views home w (some i) now p = (
    p.0,
    p.1,
    at_longer views (w ∷ []) i p.0 p.2,
    p.3,
    p.4,
    p.5,
    p.6,
    λ j u ne e. ⊎_elim (λ (t : get_elem? views j ≡ some u). p.7 j u ne t) (λ (t : w ≡ u). subst
        (λ (z : PassView E). IsOutOfTurn z.stage) t now) (at_snoc views w u j e),
  )

  pub slot_keeps : (log : List E) (table : TableIdentity) (serving count : ℕ) (views : List (PassView E)) (home : Home X E)
      (id : ℕ) (v w : PassView E) (turn : maybe.Option ℕ) → get_elem? views id ≡ some v → w.stage ≡ v.stage
      → (v.history ≡ log → w.history ≡ log)
      → Slot stands log table serving count views home turn → Slot stands log table serving count (set views id w) home turn
  slot_keeps log table serving count views home id v w none at same seen p = (
    each_set
        (λ j u. IsOutOfTurn u.stage) views id w (subst IsOutOfTurn (sym same) (p.0 id v at)) (λ j u _ e. p.0 j u e),
    p.1,
    p.2,
    p.3,
  )
  slot_keeps log table serving count views home id v w (some i) at same seen p =
      let rest_ : (j : ℕ) (u : PassView E) → j ≢ i → get_elem? (set views id w) j ≡ some u → IsOutOfTurn u.stage = λ j u ne e. each_set (λ j u. j ≢ i → IsOutOfTurn u.stage) views id w (λ n. subst IsOutOfTurn (sym same) (p.7 id v n at)) (λ j u _ e' n. p.7 j u n e') j u e ne in
      dite (ℕ_discrete i id)
      (λ is. let e = one views i id p.0 v is p.2 at in (
        w,
        p.1,
        subst (λ (z : ℕ). get_elem? (set views id w) z ≡ some w) (sym is) (here views id v w at),
        same ∙ (ap
            (λ (z : PassView E). z.stage) (sym e) ∙ p.3),
        (λ u. seen (ap
            (λ (z : PassView E). z.history) (sym e) ∙ p.4 u)),
        p.5,
        p.6,
        rest_,
      ))
      (λ ne. (p.0, p.1, else views id i p.0 w ne p.2, p.3, p.4, p.5, p.6, rest_))
