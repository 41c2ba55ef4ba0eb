-- What begins what: lists, and what was told.
use Rattle.std.proofs.Common.{◌≡◌, List, [], ◌∷◌, ◌++◌, refl, sym, ap, ◌∙◌, subst, append_assoc, append-nil}
use mathlib.Core.List.{IsPrefix}
use Rattle.ifdb_turn.proofs.ViewLemmas.{no_truth}
use Rattle.ifdb_journal.specs.declared.record.Record.{Record}
use Rattle.ifdb_durable.specs.declared.view.Flush.{Flush}
use Rattle.ifdb_durable.specs.declared.view.Told.{Told}
use Rattle.ifdb_durable.specs.Told.{kept_from, nothing, Begins}

module _ {A : Type 0} where
  pub prefix_all : (l : List A) → IsPrefix l l
  prefix_all l = ([], append-nil l)

  pub prefix_more : (xs ys zs : List A) → IsPrefix xs ys → IsPrefix xs (ys ++ zs)
  prefix_more xs ys zs p = (p.0 ++ zs, sym (append_assoc xs p.0 zs) ∙ ap (λ l. l ++ zs) p.1)

  pub prefix_on : (xs ys zs : List A) → IsPrefix xs ys → IsPrefix ys zs → IsPrefix xs zs
  prefix_on xs ys zs p q = subst (IsPrefix xs) q.1 (prefix_more xs ys q.0 p)

module _ {D : Type 0} where
  -- what the last append of a longer list kept
  pub kept_more : (kept : List Record) (h : List (Flush D)) (e : Flush D) → kept_from kept (h ++ e ∷ []) ≡ e.kept
  kept_more kept [] e = refl
  kept_more kept (x ∷ h) e = kept_more x.kept h e

  pub begins_all : (t : Told D) → Begins t t
  begins_all t = (prefix_all t.flushes, λ e. e)

  pub begins_none : (t : Told D) → Begins nothing t
  begins_none t = ((t.flushes, refl), λ e. absurd (no_truth e))

  pub begins_on : (a b c : Told D) → Begins a b → Begins b c → Begins a c
  begins_on a b c p q = (prefix_on a.flushes b.flushes c.flushes p.0 q.0, λ e. q.1 (p.1 e))
