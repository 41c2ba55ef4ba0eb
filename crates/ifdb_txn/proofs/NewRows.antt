-- What new rows do to a question about all rows.
use Rattle.std.proofs.Common.{◌≡◌, Bool, true, false, List, [], ◌∷◌, ◌∙◌, refl, sym, ap, arith, Some, None, Option, ◌&&◌, ◌||◌}
use Rattle.std.specs.Prelude.{not, option_to_list}
use Rattle.std.specs.List.{list_all, list_any}
use Rattle.std.proofs.lemmas.Bool.{false≢true}
use Rattle.std.proofs.lemmas.Bool.Decides.{nat_tests}
use Rattle.ifdb_label.specs.Tags.{MadeTag}
use Rattle.ifdb_label.specs.Label.{flows}
use Rattle.ifdb_label.proofs.LabelLaws.{flows_refl}
use Rattle.ifdb_row.specs.declared.slot.Slot.{Slot}
use Rattle.ifdb_row.specs.declared.row.Row.{Row}
use Rattle.ifdb_row.specs.declared.write.Write.{Write}
use Rattle.ifdb_row.specs.Slots.{is_same_slot, slot_lt, is_of_key, is_same_key}
use Rattle.ifdb_row.specs.Writes.{is_fitting, are_fitting, are_rising, is_gone, is_written}
use Rattle.ifdb_row.specs.Content.{place, after}
use Rattle.ifdb_row.specs.Seen.{clash}
use Rattle.ifdb_value.proofs.Lists.{all_wider}
use Rattle.ifdb_row.proofs.SlotOrder.{slot_same, slot_itself, slot_lt_itself, key_exact, key_itself, label_exact}
use Rattle.ifdb_txn.specs.Inserted.{is_taken, is_new, are_new}

-- a row in a free place
place_any : (q : Row → Bool) (s : Slot) (r : Row) (rows : List Row) → is_taken s rows ≡ false → list_any q (place s (Some r) rows) ≡ q r || list_any q rows
place_any q s r [] e = grind (arith, nat_tests)
place_any q s r (x ∷ rows) e = grind (arith, nat_tests, place_any q s r rows)

abbrev pub any_written : (Row → Bool) → List Write → Bool
any_written q ws = list_any (λ (w : Write). list_any q (option_to_list w.row)) ws

-- the write brings a row to a slot in which none stood
abbrev pub is_free : List Row → Write → Bool
is_free rows w = not (is_gone w.row) && not (is_taken w.slot rows)

lt_apart : (p q : Slot) → slot_lt p q ≡ true → is_same_slot q p ≡ false
lt_apart p q h = by (is_same_slot q p) refl where
  by : (b : Bool) → is_same_slot q p ≡ b → is_same_slot q p ≡ false
  by false e = e
  by true e = absurd (false≢true (sym (slot_lt_itself q) ∙ (ap (λ x. slot_lt x q) (slot_same q p e) ∙ h)))

taken_place : (s p : Slot) (r : Row) (rows : List Row) → is_same_slot r.slot s ≡ true → is_same_slot p s ≡ false → is_taken p rows ≡ false → is_taken s rows ≡ false → is_taken p (place s (Some r) rows) ≡ false
taken_place s p r rows f n e g = place_any (λ (x : Row). is_same_slot p x.slot) s r rows g ∙ (let k = ap (is_same_slot p) (slot_same r.slot s f) in grind (arith, nat_tests))

free_more : (s : Slot) (r : Row) (rows : List Row) (ws : List Write) → is_same_slot r.slot s ≡ true → is_taken s rows ≡ false
    → list_all (λ (v : Write). slot_lt s v.slot) ws ≡ true → list_all (is_free rows) ws ≡ true → list_all (is_free (place s (Some r) rows)) ws ≡ true
free_more s r rows [] f g u h = refl
free_more s r rows (v ∷ ws) f g u h =
    let apart = lt_apart s v.slot (grind (arith, nat_tests)) in
    let one = taken_place s v.slot r rows f apart (grind (arith, nat_tests)) g in
    grind (arith, nat_tests, free_more s r rows ws f g)

-- a question about some row, over rows with new ones: about a row before, or a new one
pub any_after : (q : Row → Bool) (rows : List Row) (ws : List Write) → are_rising ws ≡ true → are_fitting ws ≡ true → list_all (is_free rows) ws ≡ true
    → list_any q (after rows ws) ≡ list_any q rows || any_written q ws
any_after q rows [] u f h = grind (arith, nat_tests)
any_after q rows (w ∷ ws) u f h = by (λ rest k. any_after q rest ws (grind (arith, nat_tests)) (grind (arith, nat_tests)) k) w.row refl where
  gone : Bool → (o : Option Row) → Bool
  gone b None = b
  gone b (Some r) = b

  by : ((rest : List Row) → list_all (is_free rest) ws ≡ true → list_any q (after rest ws) ≡ list_any q rest || any_written q ws)
      → (o : Option Row) → w.row ≡ o → list_any q (after (place w.slot w.row rows) ws) ≡ list_any q rows || any_written q (w ∷ ws)
  by more None e =
      let k : is_gone w.row ≡ true = ap is_gone e in
      absurd (false≢true (grind (arith, nat_tests)))
  by more (Some r) e =
      let fits : is_same_slot r.slot w.slot ≡ true = sym (ap (is_fitting w.slot) e) ∙ grind (arith, nat_tests) in
      let free : is_taken w.slot rows ≡ false = grind (arith, nat_tests) in
      let one = place_any q w.slot r rows free in
      let rest = free_more w.slot r rows ws fits free (grind (arith, nat_tests)) (grind (arith, nat_tests)) in
      let two = more (place w.slot (Some r) rows) rest in
      let there : any_written q (w ∷ ws) ≡ q r || any_written q ws = ap (λ o. list_any q (option_to_list o) || any_written q ws) e ∙ grind (arith, nat_tests) in
      ap (λ o. list_any q (after (place w.slot o rows) ws)) e ∙ (two ∙ grind (arith, nat_tests))

-- ---- the rows that an INSERT has written

new_one : (tags : List MadeTag) (rows : List Row) (s : Slot) (w : Write) (r : Row) → w.row ≡ Some r → is_fitting w.slot w.row ≡ true → is_new rows s.table s.label w ≡ true
    → is_of_key s.table s.key r.slot && flows tags r.slot.label s.label ≡ is_same_slot w.slot s
new_one tags rows s w r e f h =
    let fits : is_same_slot r.slot w.slot ≡ true = sym (ap (is_fitting w.slot) e) ∙ f in
    let at = slot_same r.slot w.slot fits in
    ap (λ (x : Slot). is_of_key s.table s.key x && flows tags x.label s.label) at ∙ by (is_same_slot w.slot s) refl (is_same_key w.slot.key s.key) refl where
      table : w.slot.table ≡ s.table
      table = grind (arith, nat_tests)

      label : w.slot.label ≡ s.label
      label = label_exact w.slot.label s.label (grind (arith, nat_tests))

      same : is_same_key w.slot.key s.key ≡ true → w.slot ≡ s
      same k = let key = key_exact w.slot.key s.key k in λ i. record { table = table i; key = key i; label = label i }

      by : (b : Bool) → is_same_slot w.slot s ≡ b → (c : Bool) → is_same_key w.slot.key s.key ≡ c → is_of_key s.table s.key w.slot && flows tags w.slot.label s.label ≡ is_same_slot w.slot s
      by true e true k = let flow = ap (λ l. flows tags l s.label) label ∙ flows_refl tags s.label in grind (arith, nat_tests)
      by true e false k = absurd (false≢true (sym k ∙ (ap (λ (x : Slot). is_same_key x.key s.key) (slot_same w.slot s e) ∙ key_itself s.key)))
      by false e true k = absurd (false≢true (sym e ∙ (ap (λ x. is_same_slot x s) (same k) ∙ slot_itself s)))
      by false e false k = grind (arith, nat_tests)

written_any : (tags : List MadeTag) (rows : List Row) (s : Slot) (ws : List Write) → are_fitting ws ≡ true → are_new rows s.table s.label ws ≡ true
    → any_written (λ (r : Row). is_of_key s.table s.key r.slot && flows tags r.slot.label s.label) ws ≡ is_written ws s
written_any tags rows s [] f h = refl
written_any tags rows s (w ∷ ws) f h = by (written_any tags rows s ws) w.row refl where
  q : Row → Bool
  q r = is_of_key s.table s.key r.slot && flows tags r.slot.label s.label

  by : (are_fitting ws ≡ true → are_new rows s.table s.label ws ≡ true → any_written (λ (r : Row). is_of_key s.table s.key r.slot && flows tags r.slot.label s.label) ws ≡ is_written ws s)
      → (o : Option Row) → w.row ≡ o → any_written (λ (r : Row). is_of_key s.table s.key r.slot && flows tags r.slot.label s.label) (w ∷ ws) ≡ is_written (w ∷ ws) s
  by more None e = let k : is_gone w.row ≡ true = ap is_gone e in absurd (false≢true (grind (arith, nat_tests)))
  by more (Some r) e =
      let one = new_one tags rows s w r e (grind (arith, nat_tests)) (grind (arith, nat_tests)) in
      let rest = more (grind (arith, nat_tests)) (grind (arith, nat_tests)) in
      ap (λ o. list_any (λ (r : Row). is_of_key s.table s.key r.slot && flows tags r.slot.label s.label) (option_to_list o) || any_written (λ (r : Row). is_of_key s.table s.key r.slot && flows tags r.slot.label s.label) ws) e
      ∙ grind (arith, nat_tests)

-- a clash with the rows before and the earlier ones: with the rows before, or the slot is written already
pub clash_after : (tags : List MadeTag) (rows : List Row) (s : Slot) (ws : List Write) → are_rising ws ≡ true → are_fitting ws ≡ true → are_new rows s.table s.label ws ≡ true
    → clash tags (after rows ws) s.table s.key s.label ≡ clash tags rows s.table s.key s.label || is_written ws s
clash_after tags rows s ws u f h =
    any_after (λ (r : Row). is_of_key s.table s.key r.slot && flows tags r.slot.label s.label) rows ws u f (all_wider (is_new rows s.table s.label) (is_free rows) ws (λ w k. grind (arith, nat_tests)) h)
    ∙ ap (λ b. clash tags rows s.table s.key s.label || b) (written_any tags rows s ws f h)

-- no clash: nothing stands in the slot
pub free_slot : (tags : List MadeTag) (s : Slot) (rows : List Row) → clash tags rows s.table s.key s.label ≡ false → is_taken s rows ≡ false
free_slot tags s [] h = refl
free_slot tags s (r ∷ rows) h = grind (arith, nat_tests, free_slot tags s rows, here r) where
  here : (r : Row) → is_same_slot s r.slot ≡ true → is_of_key s.table s.key r.slot && flows tags r.slot.label s.label ≡ true
  here r e = ap (λ (x : Slot). is_of_key s.table s.key x && flows tags x.label s.label) (sym (slot_same s r.slot e)) ∙ (let k = key_itself s.key in let f = flows_refl tags s.label in grind (arith, nat_tests))
