-- The first case that applies, from what the look-ups found.
use Rattle.std.proofs.Common.{◌≡◌, ℕ, Bool, true, false, List, [], ◌∷◌, ◌∙◌, refl, sym, ap, arith, Some, None, Option}
use Rattle.std.specs.Prelude.{find, cond}
use Rattle.std.specs.List.{list_any}
use Rattle.std.proofs.lemmas.Bool.Decides.{nat_tests}
use Rattle.ifdb_value.proofs.Lists.{some_found, none_found}
use Rattle.ifdb_label.specs.Tags.{MadeTag}
use Rattle.ifdb_row.specs.declared.row.Row.{Row}
use Rattle.ifdb_row.specs.declared.slot.Slot.{Slot}
use Rattle.ifdb_row.specs.declared.write.Write.{Write}
use Rattle.ifdb_row.specs.declared.commit.Commit.{Commit}
use Rattle.ifdb_row.specs.Content.{after}
use Rattle.ifdb_row.specs.Verdict.{Verdict, commit_label, conflict, broken_reference, still_referenced, go, Witness, verdict, written_by, last_stamp, is_above, meets, is_broken, breaks, is_left, leaves, first_left, left_in, empties_parent}
use Rattle.ifdb_row.proofs.Children.{left_any}
use Rattle.ifdb_row.proofs.ShowsLaws.{find_some}
use Rattle.ifdb_commit.specs.Meeting.{Met, NamesConflict}
use Rattle.ifdb_commit.proofs.MeetLemmas.{never}

-- a later commit wrote the slot
wrote_some : (q : Slot → Bool) (s : Slot) (n : ℕ) (cs : List Commit) → last_stamp cs s ≡ Some n → q s ≡ true → list_any q (written_by cs) ≡ true
wrote_some q s n cs e k = by (list_any q (written_by cs)) refl where
  by : (b : Bool) → list_any q (written_by cs) ≡ b → list_any q (written_by cs) ≡ true
  by true h = h
  by false h = absurd (apart (sym (never q s cs h k) ∙ e)) where
    apart : None ≡ Some n → ⊥
    apart i = cc

module _ (rows : List Row) (writes : List Write) where
  -- a row that is left shows itself
  left_shows : leaves rows writes ≡ true → (x : Witness) × (first_left rows writes ≡ Some x)
  left_shows h =
      let f = find_some (is_left writes) rows h in
      let p = find_some (empties_parent f.first) writes (sym (left_any writes f.first) ∙ f.passes) in
      (_, ap (left_in writes) f.found ∙ ap (Rattle.std.specs.Prelude.option_map _) p.found)

  some_left : (x : Witness) → first_left rows writes ≡ Some x → leaves rows writes ≡ true
  some_left x e = by (find (is_left writes) rows) refl where
    by : (o : Option Row) → find (is_left writes) rows ≡ o → leaves rows writes ≡ true
    by None k = absurd (apart (sym (ap (left_in writes) k) ∙ e)) where
      apart : None ≡ Some x → ⊥
      apart i = cc
    by (Some r) k = some_found (is_left writes) rows r k

  none_left : first_left rows writes ≡ None → leaves rows writes ≡ false
  none_left e = by (leaves rows writes) refl where
    by : (b : Bool) → leaves rows writes ≡ b → leaves rows writes ≡ false
    by false h = h
    by true h = let s = left_shows h in absurd (apart s.0 (sym e ∙ s.1)) where
      apart : (x : Witness) → None ≡ Some x → ⊥
      apart x i = cc

module _ (tags : List MadeTag) (rows : List Row) (later : List Commit) (writes : List Write) (label : List ℕ) where
  abbrev Judges : Verdict → Type 0
  Judges v = v ≡ verdict tags rows (written_by later) writes label

  cases : (x y z u : Bool) → list_any (is_above tags label) writes ≡ x → list_any (meets tags writes) (written_by later) ≡ y → breaks (after rows writes) writes ≡ z → leaves (after rows writes) writes ≡ u
      → Judges (cond x commit_label (cond y conflict (cond z broken_reference (cond u still_referenced go))))
  cases x y z u a b c d = λ i. cond (sym a i) commit_label (cond (sym b i) conflict (cond (sym c i) broken_reference (cond (sym d i) still_referenced go)))

  pub above : (w : Write) → find (is_above tags label) writes ≡ Some w → Judges commit_label
  above w a = cases true _ _ _ (some_found (is_above tags label) writes w a) refl refl refl

  module _ (a : find (is_above tags label) writes ≡ None) where
    pub met : (m : Met) → NamesConflict tags later writes (Some m) → Judges conflict
    met m b = cases false true _ _ (none_found (is_above tags label) writes a) (wrote_some (meets tags writes) m.slot m.stamp later b.last b.met) refl refl

    module _ (b : NamesConflict tags later writes None) where
      pub broken : (w : Write) → find (λ (v : Write). is_broken (after rows writes) v.row) writes ≡ Some w → Judges broken_reference
      broken w c = cases false false true _ (none_found (is_above tags label) writes a) b (some_found (λ (v : Write). is_broken (after rows writes) v.row) writes w c) refl

      module _ (c : find (λ (v : Write). is_broken (after rows writes) v.row) writes ≡ None) where
        pub left : (x : Witness) → first_left (after rows writes) writes ≡ Some x → Judges still_referenced
        left x d = cases false false false true (none_found (is_above tags label) writes a) b (none_found (λ (v : Write). is_broken (after rows writes) v.row) writes c) (some_left (after rows writes) writes x d)

        pub goes : first_left (after rows writes) writes ≡ None → Judges go
        goes d = cases false false false false (none_found (is_above tags label) writes a) b (none_found (λ (v : Write). is_broken (after rows writes) v.row) writes c) (none_left (after rows writes) writes d)
