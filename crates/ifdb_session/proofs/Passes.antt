-- Passes that go on, and then go on again.
use Rattle.std.proofs.Common.{◌≡◌, ℕ, Bool, true, false, List, [], ◌∷◌, ◌++◌, ◌∙◌, length, refl, sym, ap, arith}
use Rattle.std.proofs.lemmas.List.{append_assoc, append-nil}
use mathlib.Core.List.{IsPrefix}
use Rattle.ifdb_turn.proofs.ViewLemmas.{below}
use Rattle.ifdb_turn.specs.declared.turnstile.Turnstile.{Turnstile}
use Rattle.ifdb_turn.specs.declared.turnstile.Pass.{Pass}
use Rattle.ifdb_turn.specs.Histories.{NoRootsFrom}
use Rattle.ifdb_turn.specs.Passes.{history, places, BelongsTo, IsOrderly}
use Rattle.ifdb_history.specs.declared.entry.Entry.{Entry}
use Rattle.ifdb_history.specs.History.{IsRight}
use Rattle.ifdb_history.proofs.Entries.{entries_later, entries-append}
use Rattle.ifdb_session.specs.declared.seat.Seat.{Seat}
use Rattle.ifdb_session.specs.Passes.{Sees, Adds}
use Rattle.ifdb_session.specs.Closings.{AsksBye}
use Rattle.ifdb_session.specs.Seats.{lines_in, IsSeated, IsGone}
use Rattle.ifdb_session.specs.Talk.{IsLeftSo}
use Rattle.ifdb_model.specs.Log.{Entry as LogEntry}
use Rattle.ifdb_session.specs.Starts.{start_of}

pub prefix_itself : {A : Type 0} (xs : List A) → IsPrefix xs xs
prefix_itself xs = ([], append-nil xs)

pub prefix-trans : {A : Type 0} (xs ys zs : List A) → IsPrefix xs ys → IsPrefix ys zs → IsPrefix xs zs
prefix-trans xs ys zs p q = (p.0 ++ q.0, sym (append_assoc xs p.0 q.0) ∙ ap (λ l. l ++ q.0) p.1 ∙ q.1)

module _ {X : Type 0} (older : List LogEntry) (hall : Turnstile X Entry) where
  pub sees_itself : (pass : Pass X Entry) → BelongsTo hall pass → IsOrderly (IsRight (start_of older)) pass → Sees older hall pass pass
  sees_itself pass belongs orderly = record { belongs = belongs; orderly = orderly; begins = prefix_itself _; shares = refl }

  pub sees_on : (first mid last : Pass X Entry) → Sees older hall first mid → Sees older hall mid last → Sees older hall first last
  sees_on first mid last p q = record {
    belongs = q.belongs;
    orderly = q.orderly;
    begins = prefix-trans _ _ _ p.begins q.begins;
    shares = q.shares ∙ p.shares;
  }

-- nothing was added since, and so no entry of others
pub away_itself : {X : Type 0} (pass : Pass X Entry) → NoRootsFrom (λ (e : Entry). e.root) (history pass) (length (history pass)) (places pass)
away_itself pass k entry le there = let lt = below (history pass) k entry there in absurd (omega (arith, le, lt))

module _ {X : Type 0} (n : ℕ) where
  pub adds_none : (pass : Pass X Entry) → Adds n pass pass
  adds_none pass = record { added = []; own = sym (append-nil _); of = tt }

  pub adds_on : (first mid last : Pass X Entry) → Adds n first mid → Adds n mid last → IsPrefix (history mid) (history last) → Adds n first last
  adds_on first mid last p q front = record {
    added = p.added ++ q.added;
    own = q.own ∙ ap (λ l. l ++ q.added) p.own ∙ append_assoc (places first) p.added q.added;
    of = entries-append n (history last) p.added q.added (entries_later n (history mid) (history last) p.added front p.of) q.of;
  }

-- a session that is open, or over by its last line, as a turn said
pub left_so : (older : List LogEntry) (h : List Entry) (own : List ℕ) (seat : Seat) (is_open : Bool) (before : List (List ℕ)) (line : List ℕ)
    → (is_open ≡ true → IsSeated older h own seat) → (is_open ≡ false → IsGone older h seat) → (is_open ≡ false → AsksBye seat.number h line)
    → lines_in h seat ≡ before ++ line ∷ [] → IsLeftSo older h own seat is_open
left_so older h own seat true before line goes over bye lines = goes refl
left_so older h own seat false before line goes over bye lines = (over refl, record { front = before; line = line; all = lines; bye = bye refl })
