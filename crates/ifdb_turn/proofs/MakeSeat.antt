-- Make a seat: a load that gives a new seat.
use Rattle.std.proofs.Common.{◌≡◌, ℕ, ◌<◌, ◌⊎◌, List, [], ◌∷◌, ◌++◌, sym, refl, ap, subst, ⊎_elim, inl, inr, arith, Option}
use mathlib.Core.List.{IsPrefix}
use Rattle.atomic_table.specs.Table.{State, Enters}
use Rattle.ifdb_turn.specs.declared.view.Stage.TheVariants.{Opening, Idle}
use Rattle.ifdb_turn.specs.declared.view.PassView.{PassView}
use Rattle.ifdb_turn.specs.declared.view.Kept.{Kept}
use Rattle.ifdb_turn.specs.Places.{times, RisesFrom}
use Rattle.ifdb_turn.specs.Views.{newcomer, opener, all_shares, HasTicket}
use Rattle.ifdb_turn.specs.Rule.{Home, Running, Blank, Ruled}
use Rattle.ifdb_turn.specs.Kinds.{Mine}
use Rattle.ifdb_turn.proofs.ByPass.{Fits, Runs, ruled, by_pass}
use Rattle.ifdb_turn.proofs.Sums.{total-snoc}
use Rattle.ifdb_turn.proofs.ViewLemmas.{each_snoc, find_snoc, pair_snoc, no_ticket, idle, idle_turn, IsLater, not_first}
use Rattle.ifdb_turn.proofs.Steps.{slot_more}

module _ {X E : Type 0} (stands : X → List E → Type 0) (right : List E → E → Type 0) (root : E → ℕ) where
  abbrev St : Type 0
  St = State (Option (Kept X E)) (PassView E)

  abbrev M : Type 0
  M = Mine X E

  abbrev Rule : St → Type 0
  Rule = Ruled stands right root

  abbrev Run : ℕ → ℕ → ℕ → Home X E → List (PassView E) → Type 0
  Run = Runs stands right root

  -- a new seat with no share
  pub more_run : (ticket serving count : ℕ) (home : Home X E) (views : List (PassView E)) (w : PassView E)
      (r : Run ticket serving count home views) → IsPrefix w.history r.log → w.earlier ≡ [] → w.places ≡ [] → w.shares ≡ 0
      → w.stage ≡ Idle → Run ticket serving count home (views ++ w ∷ [])
  more_run ticket serving count home views w r seen blank bare none_ free = record {
    log = r.log;
    table = r.table;
    turn = r.turn;
    opened = r.opened;
    small = r.small;
    count_is = r.count_is;
    in_order = r.in_order;
    serves = r.serves;
    each = each_snoc (λ u. Fits root r.log r.table ticket serving u) views w record {
      history = seen;
      before = subst (λ l. IsPrefix l w.history) (sym blank) (w.history, refl);
      places = λ k _. ap (times k) bare;
      rises = subst (RisesFrom 0) (sym bare) tt;
      foreign = λ k e _ _. ap (times (root e)) bare;
      held = λ n h. absurd (no_ticket n w.stage free h);
      turn = λ n h. absurd (idle_turn n w.stage (idle w.stage free) h);
      named = λ l. absurd (omega arith);
      spent = λ _. (bare, free);
      later = λ e. not_first w.stage e (subst IsLater (sym free) tt);
    } r.each;
    apart = λ i j u x n a b. pair_snoc (λ (z : PassView E). HasTicket n z.stage) views w (no_ticket n w.stage free)
        (λ i j u x a b. r.apart i j u x n a b) i j u x a b;
    shares = let n = total-snoc (λ v. v.shares) views w in let s = r.shares in omega arith;
    places = λ k. let n = total-snoc (λ v. times k v.places) views w in let s = r.places k in
        let z : times k w.places ≡ 0 = ap (times k) bare in omega arith;
    whole = find_snoc (λ u. (0 < u.shares) × (u.history ≡ r.log)) views w r.whole;
    first = λ z. find_snoc (λ u. (u.shares ≡ all_shares) × HasTicket 0 u.stage) views w (r.first z);
    slot = slot_more stands right root r.log r.table serving count views home w r.turn (idle w.stage free) r.slot;
  }

  pub more_blank : (ticket serving count : ℕ) (home : Home X E) (views : List (PassView E))
      → Blank stands right root ticket serving count home views
      → Blank stands right root ticket serving count home (views ++ newcomer ∷ [])
  more_blank ticket serving count home views b = record {
    words = b.words;
    slot = b.slot;
    each = each_snoc (λ v. (v ≡ newcomer) ⊎ (v ≡ opener)) views newcomer (inl refl) b.each;
    one = pair_snoc (λ (z : PassView E). z.stage ≡ Opening) views newcomer (λ e. not_first Idle e tt) b.one;
  }

  pub sits : (slots : ℕ) → Enters Rule slots 0 (λ r w. w ≡ newcomer)
  sits slots s r _ _ = (
    newcomer,
    record {
      ticket = r.ticket;
      serving = r.serving;
      count = r.count;
      home = r.home;
      words = r.words;
      homes = r.homes;
      phase = ⊎_elim (λ (b : Blank stands right root r.ticket r.serving r.count r.home s.views). inl (more_blank r.ticket r.serving r.count r.home s.views b))
          (λ (run : Running stands right root r.ticket r.serving r.count r.home s.views). let b = by_pass run in inr (ruled (more_run r.ticket r.serving r.count r.home s.views newcomer b (b.log, refl) refl refl refl refl))) r.phase;
    },
    refl,
  )
