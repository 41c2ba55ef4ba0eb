-- The sessions that a pass opened, turn by turn.
use Rattle.std.proofs.Common.{◌≡◌, ℕ, ◌<◌, List, [], ◌∷◌, ◌++◌, ◌∙◌, length, refl, sym, ap, subst, arith}
use Rattle.std.specs.Prelude.{count_by, nat_eq}
use Rattle.std.proofs.lemmas.List.{append-nil}
use Rattle.std.proofs.Math.Nat.{le_refl}
use mathlib.Core.List.{IsPrefix}
use native.Mathlib.Decide.{dec_lt}
use Rattle.ifdb_turn.specs.declared.turnstile.Pass.{Pass}
use Rattle.ifdb_turn.specs.Passes.{history, places, IsOrderly}
use Rattle.ifdb_turn.specs.Places.{times}
use Rattle.ifdb_model.specs.Log.{Entry as LogEntry}
use Rattle.ifdb_history.specs.declared.entry.Entry.{Entry}
use Rattle.ifdb_history.specs.History.{after, roots_from, HasRoot, IsRight, Holds}
use Rattle.ifdb_history.proofs.Flat.{root-append, as_many_roots}
use Rattle.ifdb_history.proofs.Sessions.{open_was}
use Rattle.ifdb_session.specs.Passes.{Adds, IsNew}
use Rattle.ifdb_session.specs.Starts.{start_of}
use Rattle.ifdb_desk.specs.Opened.{opened_in}
use Rattle.ifdb_desk.proofs.Opening.{added_root, opened_later, opened_one, unopened}

module _ {X : Type 0} (first : List LogEntry) (old new : Pass X Entry) (front : IsPrefix (history old) (history new)) (orderly : IsOrderly (IsRight (start_of first)) old) where
  -- where it has no more entries
  pub opened_waiting : places new ≡ places old → opened_in (history new) (places new) ≡ opened_in (history old) (places old)
  opened_waiting same =
      ap (opened_in (history new)) (same ∙ sym (append-nil (places old)))
      ∙ opened_later (history old) (history new) (places old) [] front orderly.2 (λ place opened more. absurd (omega (arith, more)))

  -- where its turns were of a session that it holds
  pub opened_same : (n : ℕ) → Adds n old new → Holds (start_of first) (history old) (places old) n → opened_in (history new) (places new) ≡ opened_in (history old) (places old)
  opened_same n adds holds =
      let root = subst (λ h. HasRoot h n holds.1.0) front.1 (root-append (history old) front.0 n holds.1.0 holds.1.1) in
      ap (opened_in (history new)) adds.own
      ∙ opened_later (history old) (history new) (places old) adds.added front orderly.2 (λ place opened more.
      subst (λ p. 0 < times p (places old)) (sym (added_root n holds.1.0 place (history new) adds.added root adds.of opened more)) holds.1.2)

  -- where it has opened one
  module _ (n : ℕ) (is : IsNew first n old new) where
    above : length (roots_from 0 (history old)) < n
    above = let count = as_many_roots (start_of first) (history old) in elim (dec_lt 0 (length (after (start_of first) (history old)).sessions)) [
      | yes some ↦ (let lt = is.above (length (after (start_of first) (history old)).sessions) (some, le_refl (length (after (start_of first) (history old)).sessions)) in omega (arith, count, lt))
      | no none ↦ (let was = (open_was (after (start_of first) (history new)) n is.holds.0).0 in omega (arith, count, none, was))
    ]

    pub opened_more : opened_in (history new) (places new) ≡ opened_in (history old) (places old) ++ n ∷ []
    opened_more =
        ap (opened_in (history new)) is.own
        ∙ opened_one (history old) (history new) (places old) (is.place ∷ []) front orderly.2 n is.place refl is.root above

    pub opened_fresh : count_by (nat_eq n) (opened_in (history old) (places old)) ≡ 0
    opened_fresh = unopened (history old) (places old) n above
