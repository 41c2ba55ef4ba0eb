-- Split a pass.
use Rattle.std.proofs.Common.{◌≡◌, ℕ, ◌-◌, ◌<◌, ◌⊎◌, List, [], ◌∷◌, ◌++◌, set, sym, refl, ap, ◌∙◌, subst, ⊎_elim, inl, inr, arith, Option}
use mathlib.Core.Option.{some}
use lib.ListN.{get_elem?}
use Rattle.atomic_table.specs.Table.{State, Splits}
use Rattle.atomic_table.proofs.Lists.{set_again}
use Rattle.ifdb_turn.specs.declared.view.Stage.TheVariants.{Idle}
use Rattle.ifdb_turn.specs.declared.view.PassView.{PassView}
use Rattle.ifdb_turn.specs.declared.view.Kept.{Kept}
use Rattle.ifdb_turn.specs.Places.{times}
use Rattle.ifdb_turn.specs.Views.{newcomer, opener, all_shares, HasTicket}
use Rattle.ifdb_turn.specs.Rule.{Home, Running, Blank, Ruled}
use Rattle.ifdb_turn.specs.Kinds.{Mine, without_shares, with_shares}
use Rattle.ifdb_turn.proofs.ByPass.{Fits, Runs, ruled, by_pass}
use Rattle.ifdb_turn.proofs.Sums.{total-set, total-same, total-snoc}
use Rattle.ifdb_turn.proofs.ViewLemmas.{each_set, find_set, each_snoc, find_snoc, pair_snoc, no_ticket, not_first}
use Rattle.ifdb_turn.proofs.Steps.{runs, slot_more, slot_keeps}
use Rattle.ifdb_turn.proofs.MakeSeat.{more_run, more_blank}

module _ {X E : Type 0} (stands : X → List E → Type 0) (right : List E → E → Type 0) (root : E → ℕ) where
  abbrev St : Type 0
  St = State (Option (Kept X E)) (PassView E)

  abbrev M : Type 0
  M = Mine X E

  abbrev Rule : St → Type 0
  Rule = Ruled stands right root

  abbrev Run : ℕ → ℕ → ℕ → Home X E → List (PassView E) → Type 0
  Run = Runs stands right root

  -- a pass gives up a share to a new pass
  split_run : (ticket serving count : ℕ) (home : Home X E) (views : List (PassView E)) (id : ℕ) (v : PassView E) (k : ℕ)
      (r : Run ticket serving count home views) → get_elem? views id ≡ some v → 0 < k → k < v.shares → v.stage ≡ Idle
      → Run ticket serving count home (set views id (without_shares k v) ++ with_shares k v ∷ [])
  split_run ticket serving count home views id v k r at some_ room free = let f = r.each id v at in
      let L : PassView E = without_shares k v in let N : PassView E = with_shares k v in
      let V : List (PassView E) = set views id L in record {
        log = r.log;
        table = r.table;
        turn = r.turn;
        opened = r.opened;
        small = r.small;
        count_is = r.count_is;
        in_order = r.in_order;
        serves = r.serves;
        each = each_snoc (λ u. Fits root r.log r.table ticket serving u) V N
            record {
              history = f.history;
              before =
                  (v.history, refl);
              places = λ _ _. refl;
              rises = tt;
              foreign = λ _ _ _ _. refl;
              held = λ n h. absurd h;
              turn = λ n h. absurd h;
              named = λ _. f.named (omega arith);
              spent = λ z. absurd (omega arith);
              later = λ e. not_first Idle e tt;
            }
            (each_set (λ j u. Fits root r.log r.table ticket serving u) views id L
            record { history = f.history; before = f.before; places = f.places; rises = f.rises; foreign = f.foreign; held = f.held; turn = f.turn; named = λ _. f.named (omega arith); spent = λ z. absurd (omega arith); later = f.later }
            (λ j u _ e. r.each j u e));
        apart = λ i j u x n a b. pair_snoc (λ (z : PassView E). HasTicket n z.stage) V N (λ h. h)
            (λ i j u x a b. each_set (λ i u. HasTicket n u.stage → HasTicket n x.stage → i ≡ j) views id L
            (λ h. absurd (no_ticket n v.stage free h))
            (λ i u _ a' h. each_set (λ j x. HasTicket n x.stage → i ≡ j) views id L (λ h'. absurd (no_ticket n v.stage free h'))
            (λ j x _ b' h'. r.apart i j u x n a' b' h h') j x b) i u a)
            i j u x a b;
        shares = let n = total-snoc (λ v. v.shares) V N in let m = total-set (λ v. v.shares) views id v L at in let s = r.shares in
            omega arith;
        places = λ x. let n = total-snoc (λ v. times x v.places) V N in
            let m = total-same (λ v. times x v.places) views id v L at refl in let s = r.places x in omega arith;
        whole = find_snoc (λ u. (0 < u.shares) × (u.history ≡ r.log)) V N (find_set
            (λ u. (0 < u.shares) × (u.history ≡ r.log)) views id v L at (λ h. (omega arith, h.1)) r.whole);
        first = λ z. find_snoc (λ u. (u.shares ≡ all_shares) × HasTicket 0 u.stage) V N (find_set
            (λ u. (u.shares ≡ all_shares) × HasTicket 0 u.stage) views id v L at
            (λ h. absurd (no_ticket 0 v.stage free h.1)) (r.first z));
        slot = slot_more stands right root r.log r.table serving count V home N r.turn tt (slot_keeps stands right root r.log r.table serving count views home id v L r.turn at refl (λ e. e) r.slot);
      }

  gave_none : (v : PassView E) → without_shares 0 v ≡ v
  gave_none v = let is : v.shares - 0 ≡ v.shares = omega arith in ap (λ (n : ℕ). record v { shares = n }) is

  got_none : (v : PassView E) → (v ≡ newcomer) ⊎ (v ≡ opener) → with_shares 0 v ≡ newcomer
  got_none v p = ⊎_elim (λ (e : v ≡ newcomer). ap (with_shares 0) e) (λ (e : v ≡ opener). ap (with_shares 0) e) p

  pub splits : (id k : ℕ) (v : PassView E) → ((0 < k) × (k < v.shares) × (v.stage ≡ Idle)) ⊎ (k ≡ 0)
      → Splits Rule id v (without_shares k v) (with_shares k v)
  splits id k v room s r at = record {
    ticket = r.ticket;
    serving = r.serving;
    count = r.count;
    home = r.home;
    words = r.words;
    homes = r.homes;
    phase = ⊎_elim (λ (a : (0 < k) × (k < v.shares) × (v.stage ≡ Idle)). inr (ruled (split_run r.ticket r.serving r.count r.home s.views id v k (runs stands right root r.ticket r.serving r.count r.home s.views id v r.phase at (let p = a.0 in
        let p' = a.1 in omega arith)) at a.0 a.1 a.2)))
        (λ (z : k ≡ 0). let back : s.views ≡ set s.views id (without_shares 0 v) = sym (set_again s.views id v at)
        ∙ ap (set s.views id) (sym (gave_none v)) in
        subst (λ (y : ℕ × List (PassView E)). Blank stands right root r.ticket r.serving r.count r.home (y.1 ++ with_shares y.0 v ∷ []) ⊎ Running stands right root r.ticket r.serving r.count r.home (y.1 ++ with_shares y.0 v ∷ [])) (λ i. (sym z i, (back ∙ ap (λ n. set s.views id (without_shares n v)) (sym z)) i))
        (⊎_elim (λ (b : Blank stands right root r.ticket r.serving r.count r.home s.views). inl (subst
        (λ y. Blank stands right root r.ticket r.serving r.count r.home (s.views ++ y ∷ [])) (sym (got_none v (b.each id v at))) (more_blank stands right root r.ticket r.serving r.count r.home s.views b)))
        (λ (run : Running stands right root r.ticket r.serving r.count r.home s.views). let b = by_pass run in inr (ruled (more_run stands right root r.ticket r.serving r.count r.home s.views (with_shares 0 v) b (b.each id v at).history refl refl refl refl))) r.phase)) room;
  }
