-- Rows updated one after the other.
use Rattle.std.proofs.Common.{◌≡◌, ◌⊎◌, inl, inr, ℕ, ◌<◌, ◌+◌, Bool, true, List, [], ◌∷◌, ◌++◌, ◌∙◌, length, get_or, drop, refl, sym, ap, arith, Some, None, Option}
use Rattle.std.specs.Prelude.{Ok, Err, Result, map}
use Rattle.std.specs.List.{list_all}
use Rattle.std.proofs.lemmas.List.{drop_more}
use Rattle.std.proofs.lemmas.Grind.{common_steps}
use Rattle.std.proofs.lemmas.Bool.Decides.{nat_tests}
use Rattle.ifdb_value.specs.declared.value.Value.{Value}
use Rattle.ifdb_row.specs.declared.slot.Slot.{Slot}
use Rattle.ifdb_row.specs.declared.row.Row.{Row}
use Rattle.ifdb_row.specs.declared.row.RowRef.{RowRef}
use Rattle.ifdb_row.specs.ByReference.{row_of}
use Rattle.ifdb_row.specs.declared.write.Write.{Write}
use Rattle.ifdb_row.specs.Slots.{slot_lt}
use Rattle.ifdb_row.specs.Writes.{are_rising, is_fitting, are_fitting}
use Rattle.ifdb_row.specs.Content.{rising}
use Rattle.ifdb_row.proofs.SlotOrder.{slot_itself}
use Rattle.ifdb_bound.specs.declared.schema.Schema.{Schema}
use Rattle.ifdb_bound.specs.declared.request.BoundAssignment.{BoundAssignment}
use Rattle.ifdb_wire.specs.declared.fault.Fault.{Fault}
use Rattle.ifdb_wire.specs.declared.fault.Fault.TheVariants as fault
use Rattle.ifdb_model.specs.Writes.{Scene, update_one, update_to, updated, update_all, and_write, assigned, rebound, new_write}
use Rattle.ifdb_txn.specs.Rebinding.{before}

module _ (x : Scene) (schema : Schema) (sets : List BoundAssignment) where
  abbrev all_of : List Row → Result (List Write) Fault
  all_of rows = update_all x schema sets rows

  before_one : (front : List Write) (w : Write) (o : Result (List Write) Fault) → before front (and_write (Ok w) o) ≡ before (front ++ w ∷ []) o
  before_one front w (Err f) = refl
  before_one front w (Ok ws) = ap Ok (grind (arith, common_steps))

  pub one_more : (rows : List RowRef) (i : ℕ) (r : RowRef) (front : List Write) (w : Write) → i < length rows → get_or rows i r ≡ r → update_one x schema sets (row_of r) ≡ Ok w
      → before front (all_of (map row_of (drop i rows))) ≡ before (front ++ w ∷ []) (all_of (map row_of (drop (i + 1) rows)))
  one_more rows i r front w lt at e =
      ap (λ d. before front (all_of (map row_of d))) (drop_more rows i r lt)
      ∙ (ap (λ b. before front (and_write (update_one x schema sets (row_of b)) (all_of (map row_of (drop (i + 1) rows))))) at
      ∙ (ap (λ o. before front (and_write o (all_of (map row_of (drop (i + 1) rows))))) e ∙ before_one front w (all_of (map row_of (drop (i + 1) rows)))))

  pub one_refused : (rows : List RowRef) (i : ℕ) (r : RowRef) (front : List Write) (f : Fault) → i < length rows → get_or rows i r ≡ r
      → all_of (map row_of rows) ≡ before front (all_of (map row_of (drop i rows)))
      → (f ≡ fault.OutOfMemory) ⊎ (update_one x schema sets (row_of r) ≡ Err f) → (f ≡ fault.OutOfMemory) ⊎ (all_of (map row_of rows) ≡ Err f)
  one_refused rows i r front f lt at e (inl k) = inl k
  one_refused rows i r front f lt at e (inr k) = inr (e
      ∙ (ap (λ d. before front (all_of (map row_of d))) (drop_more rows i r lt)
      ∙ (ap (λ b. before front (and_write (update_one x schema sets (row_of b)) (all_of (map row_of (drop (i + 1) rows))))) at
      ∙ ap (λ o. before front (and_write o (all_of (map row_of (drop (i + 1) rows))))) k)))

  -- ---- the writes stand as their rows
  one_slot : (r : Row) (w : Write) (o : Option (List Value)) → update_to x schema sets r o ≡ Ok w → (w.slot ≡ r.slot) × (is_fitting w.slot w.row ≡ true)
  one_slot r w None e = cc
  one_slot r w (Some values) e = by (rebound x sets r.values values schema.foreign r.refs) e where
    by : (o : Option (List Slot)) → updated r.slot values o ≡ Ok w → (w.slot ≡ r.slot) × (is_fitting w.slot w.row ≡ true)
    by None k = cc
    by (Some refs) k =
        let same : new_write r.slot values refs ≡ w = cc in
        (ap (λ (v : Write). v.slot) (sym same), ap (λ (v : Write). is_fitting v.slot v.row) (sym same) ∙ slot_itself r.slot)

  record AreAsRows (rows : List Row) (ws : List Write) : Type 0 where
    all : (q : Slot → Bool) → list_all (λ (r : Row). q r.slot) rows ≡ true → list_all (λ (w : Write). q w.slot) ws ≡ true
    up : rising rows ≡ true → are_rising ws ≡ true
    fits : are_fitting ws ≡ true

  as_rows : (rows : List Row) (ws : List Write) → all_of rows ≡ Ok ws → AreAsRows rows ws
  as_rows [] ws e = let same : [] ≡ ws = cc in record { all = λ q h. ap (list_all (λ (w : Write). q w.slot)) (sym same); up = λ h. ap are_rising (sym same); fits = ap are_fitting (sym same) }
  as_rows (r ∷ rows) ws e = by (as_rows rows) (update_one x schema sets r) refl (all_of rows) refl where
    by : ((ws : List Write) → all_of rows ≡ Ok ws → AreAsRows rows ws) → (a : Result Write Fault) → update_one x schema sets r ≡ a → (b : Result (List Write) Fault) → all_of rows ≡ b → AreAsRows (r ∷ rows) ws
    by more (Err f) k b m = let no : Err f ≡ Ok ws = ap (λ o. and_write o (all_of rows)) (sym k) ∙ e in absurd (cc)
    by more (Ok w) k (Err f) m = let no : Err f ≡ Ok ws = (ap (λ o. and_write o (Err f)) (sym k) ∙ ap (and_write (update_one x schema sets r)) (sym m)) ∙ e in absurd (cc)
    by more (Ok w) k (Ok vs) m =
        let yes : Ok (w ∷ vs) ≡ Ok ws = (ap (λ o. and_write o (Ok vs)) (sym k) ∙ ap (and_write (update_one x schema sets r)) (sym m)) ∙ e in
        let same : w ∷ vs ≡ ws = cc in
        let one = one_slot r w (assigned r.values sets) k in
        let rest = more vs m in
        record {
          all = λ q h. ap (list_all (λ (v : Write). q v.slot)) (sym same) ∙ (let a = ap q one.0 in let b = rest.all q (grind (arith, nat_tests)) in grind (arith, nat_tests));
          up = λ h. ap are_rising (sym same) ∙ (let a = rest.all (slot_lt r.slot) (grind (arith, nat_tests)) in let c = ap (λ s. list_all (λ (v : Write). slot_lt s v.slot) vs) one.0 in let b = rest.up (grind (arith, nat_tests)) in grind (arith, nat_tests));
          fits = ap are_fitting (sym same) ∙ (let a = one.1 in let b = rest.fits in grind (arith, nat_tests));
        }

  pub updated_rising : (rows : List Row) (ws : List Write) → all_of rows ≡ Ok ws → rising rows ≡ true → are_rising ws ≡ true
  updated_rising rows ws e h = (as_rows rows ws e).up h

  pub updated_fitting : (rows : List Row) (ws : List Write) → all_of rows ≡ Ok ws → are_fitting ws ≡ true
  updated_fitting rows ws e = (as_rows rows ws e).fits
