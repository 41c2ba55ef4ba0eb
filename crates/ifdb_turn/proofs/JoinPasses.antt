-- Join two passes.
use Rattle.std.proofs.Common.{◌≡◌, ◌≢◌, ℕ, ◌+◌, ◌<◌, ◌≤◌, ◌⊎◌, List, [], length, set, sym, refl, ap, ◌∙◌, subst, ⊎_elim, inl, inr, arith, Option}
use mathlib.Core.Logic.{dite}
use mathlib.Core.Option.{some}
use mathlib.Core.List.{IsPrefix}
use native.Mathlib.Decide.{ℕ_discrete}
use lib.ListN.{get_elem?}
use Rattle.atomic_table.specs.Table.{State, Joins}
use Rattle.atomic_table.proofs.Lists.{set_else, set_again}
use Rattle.ifdb_turn.specs.declared.view.Stage.TheVariants.{Idle}
use Rattle.ifdb_turn.specs.declared.view.PassView.{PassView}
use Rattle.ifdb_turn.specs.declared.view.Kept.{Kept}
use Rattle.ifdb_turn.specs.Histories.{longer, shorter}
use Rattle.ifdb_turn.specs.Places.{times, merge}
use Rattle.ifdb_turn.specs.Views.{newcomer, opener, all_shares, HasTicket}
use Rattle.ifdb_turn.specs.Rule.{Home, Running, Blank, Ruled}
use Rattle.ifdb_turn.specs.Kinds.{Mine, joined}
use Rattle.ifdb_turn.proofs.ByPass.{Fits, Runs, ruled, by_pass}
use Rattle.ifdb_turn.proofs.Sums.{total-set, total_two}
use Rattle.ifdb_turn.proofs.ViewLemmas.{each_set, here, else, one, find_set, no_ticket, idle, IsLater, not_first}
use Rattle.ifdb_turn.proofs.PlaceLemmas.{times_merge, rises_merge, one_below-most}
use Rattle.ifdb_turn.proofs.HistoryLemmas.{prefix_whole, longer_prefix, longer_length, shorter_prefix}
use Rattle.ifdb_turn.proofs.Steps.{slot_waits, slot_keeps}

module _ {X E : Type 0} (stands : X → List E → Type 0) (right : List E → E → Type 0) (root : E → ℕ) where
  abbrev St : Type 0
  St = State (Option (Kept X E)) (PassView E)

  abbrev M : Type 0
  M = Mine X E

  abbrev Rule : St → Type 0
  Rule = Ruled stands right root

  abbrev Run : ℕ → ℕ → ℕ → Home X E → List (PassView E) → Type 0
  Run = Runs stands right root

  join_run : (ticket serving count : ℕ) (home : Home X E) (views : List (PassView E)) (id : ℕ) (v : PassView E) (other : ℕ)
      (w : PassView E) (r : Run ticket serving count home views) → get_elem? views id ≡ some v → other ≢ id
      → get_elem? views other ≡ some w
      → w.stage ≡ Idle → (0 < v.shares) ⊎ (w.shares ≡ 0) → (v.stage ≡ Idle) ⊎ (w.shares ≡ 0)
      → Run ticket serving count home (set (set views id (joined v w)) other newcomer)
  join_run ticket serving count home views id v other w r at apart_ there free mine idle_or = let f = r.each id v at in
      let g = r.each other w there in let B : PassView E = joined v w in let V : List (PassView E) = set views id B in
      let there' : get_elem? V other ≡ some w = else views id other w B apart_ there in
      let len = longer_length v.history w.history in
      let pre : IsPrefix (longer v.history w.history) r.log = longer_prefix
      (λ l. IsPrefix l r.log) v.history w.history f.history g.history in
      let places_two : (k : ℕ) → times k v.places + times k w.places ≤ 1 = λ k. (let two = total_two
      (λ (u : PassView E). times k u.places) views id other v w apart_ at there in let s = r.places k in
      let m = one_below-most k (length r.log) in omega arith) in
      let is_whole : (v.history ≡ r.log) ⊎ (w.history ≡ r.log) → B.history ≡ r.log = λ h. prefix_whole B.history r.log pre (⊎_elim (λ (e : v.history ≡ r.log). let a : length v.history ≡ length r.log = ap length e in omega arith) (λ (e : w.history ≡ r.log). let a : length w.history ≡ length r.log = ap length e in omega arith) h) in
      let here' : get_elem? (set V other newcomer) id ≡ some B = else V other id B newcomer
      (λ e. apart_ (sym e)) (here views id v B at) in
      let back : (n j : ℕ) (u : PassView E) → get_elem? (set V other newcomer) j ≡ some u → HasTicket n u.stage → (x : PassView E) × (get_elem? views j ≡ some x) × HasTicket n x.stage =
      λ n. each_set (λ j u. HasTicket n u.stage → (x : PassView E) × (get_elem? views j ≡ some x) × HasTicket n x.stage) V other newcomer (λ h. absurd h)
      (λ j u _ e. each_set (λ j u. HasTicket n u.stage → (x : PassView E) × (get_elem? views j ≡ some x) × HasTicket n x.stage) views id B (λ h. (v, at, h)) (λ j u _ e h. (u, e, h)) j u e) in
      record {
        log = r.log;
        table = r.table;
        turn = r.turn;
        opened = r.opened;
        small = r.small;
        count_is = r.count_is;
        in_order = r.in_order;
        serves = r.serves;
        each = each_set (λ j u. Fits root r.log r.table ticket serving u) V other newcomer
            record {
              history = (r.log, refl);
              before =
                  ([], refl);
              places = λ _ _. refl;
              rises = tt;
              foreign = λ _ _ _ _. refl;
              held = λ n h. absurd h;
              turn = λ n h. absurd h;
              named = λ l. absurd (omega arith);
              spent = λ _. (refl, refl);
              later = λ e. not_first Idle e tt;
            }
            (λ j u _ e. each_set (λ j u. Fits root r.log r.table ticket serving u) views id B
            record {
              history = pre;
              before = shorter_prefix v.history w.history r.log f.history g.history;
              places = λ k le. (let a = f.places k (omega arith) in let b = g.places k (omega arith) in
                  let m = times_merge k v.places w.places in omega arith);
              rises = rises_merge v.places w.places f.rises places_two;
              foreign = λ k e le is. (let a = f.foreign k e (omega arith) is in let b = g.foreign k e (omega arith) is in
                  let m = times_merge (root e) v.places w.places in omega arith);
              held = f.held;
              turn = f.turn;
              named = λ l. f.named (⊎_elim (λ (p : 0 < v.shares). p) (λ (z : w.shares ≡ 0). omega arith) mine);
              spent = λ z. (let a = f.spent (omega arith) in let b = g.spent (omega arith) in
                  ((λ i. merge (a.0 i) (b.0 i)), a.1));
              later = f.later;
            }
            (λ j u _ e. r.each j u e) j u e);
        apart = λ i j u x n a b h k. (let y = back n i u a h in let z = back n j x b k in r.apart i j y.0 z.0 n y.1 z.1 y.2 z.2);
        shares = let a = total-set (λ (v : PassView E). v.shares) views id v B at in
            let b = total-set (λ (v : PassView E). v.shares) V other w newcomer there' in let s = r.shares in omega arith;
        places = λ k. (let a = total-set (λ (v : PassView E). times k v.places) views id v B at in
            let b = total-set (λ (v : PassView E). times k v.places) V other w newcomer there' in let s = r.places k in
            let m = times_merge k v.places w.places in omega arith);
        whole = let p = r.whole in dite (ℕ_discrete p.0 other)
            (λ e. let same = one views p.0 other p.1 w e p.2 there in (
              id,
              B,
              here',
              (
                (let l : 0 < w.shares = subst (λ (z : PassView E). 0 < z.shares) same p.3.0 in
                    omega arith),
                is_whole (inr (ap (λ (z : PassView E). z.history) (sym same) ∙ p.3.1)),
              ),
            ))
            (λ ne. dite (ℕ_discrete p.0 id)
            (λ e. let same = one views p.0 id p.1 v e p.2 at in (
              id,
              B,
              here',
              (
                (let l : 0 < v.shares = subst (λ (z : PassView E). 0 < z.shares) same p.3.0 in
                    omega arith),
                is_whole (inl (ap (λ (z : PassView E). z.history) (sym same) ∙ p.3.1)),
              ),
            ))
            (λ ne'. (p.0, p.1, else V other p.0 p.1 newcomer ne (else views id p.0 p.1 B ne' p.2), p.3)));
        first = λ z. find_set (λ u. (u.shares ≡ all_shares) × HasTicket 0 u.stage) V other w newcomer there'
            (λ h. absurd (no_ticket 0 w.stage free h.1))
            (find_set (λ u. (u.shares ≡ all_shares) × HasTicket 0 u.stage) views id v B at (λ h. (
              ⊎_elim
                  (λ (e : v.stage ≡ Idle). absurd (no_ticket 0 v.stage e h.1))
                  (λ (e : w.shares ≡ 0). let a : v.shares ≡ all_shares = h.0 in
                  let x : v.shares + w.shares ≡ all_shares = omega arith in x) idle_or,
              h.1,
            )) (r.first z));
        slot = slot_waits stands right root serving count V home other w newcomer r.log r.table r.turn there' (idle w.stage free) tt
            (slot_keeps stands right root r.log r.table serving count views home id v B r.turn at refl
            (λ e. is_whole (inl e)) r.slot);
      }

  begins : (v w : PassView E) → (v ≡ newcomer) ⊎ (v ≡ opener) → (w ≡ newcomer) ⊎ (w ≡ opener) → joined v w ≡ v
  begins v w p q = let seen : w.history ≡ [] = ⊎_elim (λ (e : w ≡ newcomer). ap (λ (z : PassView E). z.history) e)
      (λ (e : w ≡ opener). ap (λ (z : PassView E). z.history) e) q in
      let own : w.places ≡ [] = ⊎_elim (λ (e : w ≡ newcomer). ap (λ (z : PassView E). z.places) e) (λ (e : w ≡ opener). ap
      (λ (z : PassView E). z.places) e) q in
      let shares : w.shares ≡ 0 = ⊎_elim (λ (e : w ≡ newcomer). ap (λ (z : PassView E). z.shares) e) (λ (e : w ≡ opener). ap
      (λ (z : PassView E). z.shares) e) q in
      let same : v.shares + w.shares ≡ v.shares = omega arith in
      let mine : v.history ≡ [] = ⊎_elim (λ (e : v ≡ newcomer). ap (λ (z : PassView E). z.history) e) (λ (e : v ≡ opener). ap
      (λ (z : PassView E). z.history) e) p in
      let long : longer v.history w.history ≡ v.history = (λ i. longer (mine i) (seen i)) ∙ sym mine in
      let were : v.earlier ≡ [] = ⊎_elim (λ (e : v ≡ newcomer). ap (λ (z : PassView E). z.earlier) e) (λ (e : v ≡ opener). ap
      (λ (z : PassView E). z.earlier) e) p in
      let short : shorter v.history w.history ≡ v.earlier = (λ i. shorter (mine i) (seen i)) ∙ sym were in
      (λ i. record v { history = long i; earlier = short i; places = merge v.places (own i); shares = same i })

  join_blank : (ticket serving count : ℕ) (home : Home X E) (views : List (PassView E)) (id : ℕ) (v : PassView E) (other : ℕ)
      (w : PassView E) (b : Blank stands right root ticket serving count home views) → get_elem? views id ≡ some v → other ≢ id
      → get_elem? views other ≡ some w
      → w.stage ≡ Idle → Blank stands right root ticket serving count home (set (set views id (joined v w)) other newcomer)
  join_blank ticket serving count home views id v other w b at apart_ there free = let is : w ≡ newcomer = ⊎_elim
      (λ (e : w ≡ newcomer). e) (λ (e : w ≡ opener). absurd (not_first w.stage (ap
      (λ (z : PassView E). z.stage) e) (subst IsLater (sym free) tt))) (b.each other w there) in
      let same : set (set views id (joined v w)) other newcomer ≡ views = ap
      (λ l. set l other newcomer) (ap (set views id) (begins v w (b.each id v at) (b.each other w there)) ∙ set_again views id v at) ∙ (ap (set views other) (sym is) ∙ set_again views other w there) in
      subst (Blank stands right root ticket serving count home) (sym same) b

  pub joins : (id : ℕ) (v : PassView E) (other : ℕ) (w : PassView E) → w.stage ≡ Idle → (0 < v.shares) ⊎ (w.shares ≡ 0)
      → (v.stage ≡ Idle) ⊎ (w.shares ≡ 0) → Joins Rule id v other w (joined v w) newcomer
  joins id v other w free mine idle_or s r at apart there =
      let there_ : get_elem? s.views other ≡ some w = sym (set_else s.views id other (joined v w) apart) ∙ there in record {
        ticket = r.ticket;
        serving = r.serving;
        count = r.count;
        home = r.home;
        words = r.words;
        homes = r.homes;
        phase = ⊎_elim (λ (b : Blank stands right root r.ticket r.serving r.count r.home s.views). inl (join_blank r.ticket r.serving r.count r.home s.views id v other w b at apart there_ free))
            (λ (run : Running stands right root r.ticket r.serving r.count r.home s.views). inr (ruled (join_run r.ticket r.serving r.count r.home s.views id v other w (by_pass run) at apart there_ free mine idle_or))) r.phase;
      }
