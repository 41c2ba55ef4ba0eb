-- The writes that bytes are read as stand by their slots, and each row stands in its write's slot.
use Rattle.std.proofs.Common.{◌≡◌, ℕ, zero, suc, Bool, true, false, List, [], ◌∷◌, ◌∙◌, length, take, drop, refl, sym, ap, arith, cond, Option, Some, None}
use Rattle.std.specs.Prelude.{◌&&◌, ◌-◌, ◌==◌}
use Rattle.std.specs.Int.{w32, to_be_bytes}
use Rattle.std.specs.Str.{bytes_eq}
use Rattle.std.proofs.lemmas.Bool.Decides.{nat_tests}
use Rattle.ifdb_value.specs.declared.value.Value.{Value}
use Rattle.ifdb_row.specs.declared.slot.Slot.{Slot}
use Rattle.ifdb_row.specs.declared.row.Row.{Row}
use Rattle.ifdb_row.specs.declared.write.Write.{Write}
use Rattle.ifdb_row.specs.Slots.{is_same_slot}
use Rattle.ifdb_row.specs.Writes.{is_fitting, are_fitting, are_rising}
use Rattle.ifdb_row.proofs.SlotOrder.{slot_itself}
use Rattle.ifdb_redo.specs.declared.record.RedoRecord.{RedoRecord}
use Rattle.ifdb_redo.specs.declared.record.RedoRecord.TheVariants as redo
use Rattle.ifdb_redo.specs.Checksum.{checksum}
use Rattle.ifdb_redo.specs.Reading.{◌>>=◌, Found, number_at, value_at, slot_at, row_at, filling_at, write_at, items_at, list_at, writes_of, said, record_of}

-- ---- what is found is one thing

abbrev found : {X : Type 0} → X → List ℕ → Found X
found x rest = Some (x, rest)

abbrev found_or : {X : Type 0} → X → Found X → X
found_or x None = x
found_or x (Some f) = f.0

same_found : {X : Type 0} (a b : X) (r s : List ℕ) → found a r ≡ found b s → a ≡ b
same_found a b r s e = ap (found_or a) e

-- ---- a row stands in its slot

abbrev row_of : Slot → List Value → List Slot × List ℕ → Found Row
row_of s values refs = Some (record { slot = s; values = values; refs = refs.0 }, refs.1)

row_values : (s : Slot) (o : Found (List Value)) (f : List ℕ → Found (List Slot)) (row : Row) (rest : List ℕ) → (o >>= λ values. (f values.1 >>= row_of s values.0)) ≡ found row rest → row.slot ≡ s
row_values s None f row rest e = absurd cc
row_values s (Some values) f row rest e = by (f values.1) e where
  by : (o : Found (List Slot)) → (o >>= row_of s values.0) ≡ found row rest → row.slot ≡ s
  by None k = absurd cc
  by (Some refs) k = sym (ap (λ (r : Row). r.slot) (same_found (record { slot = s; values = values.0; refs = refs.0 }) row refs.1 rest k))

row_is : (s : Slot) (bytes : List ℕ) (row : Row) (rest : List ℕ) → row_at s bytes ≡ found row rest → row.slot ≡ s
unfolding row_at
row_is s bytes row rest e = row_values s (list_at value_at bytes) (list_at slot_at) row rest e

abbrev filled : Row × List ℕ → Found (Option Row)
filled row = Some (Some row.0, row.1)

row_filled : (s : Slot) (o : Found Row) (filling : Option Row) (rest : List ℕ) → ((row : Row) (more : List ℕ) → o ≡ found row more → row.slot ≡ s) → (o >>= filled) ≡ found filling rest → is_fitting s filling ≡ true
row_filled s None filling rest at e = absurd cc
row_filled s (Some row) filling rest at e =
    ap (is_fitting s) (sym (same_found (Some row.0) filling row.1 rest e)) ∙ ap (λ t. is_same_slot t s) (at row.0 row.1 refl) ∙ slot_itself s

filling_fits : (s : Slot) (bytes : List ℕ) (filling : Option Row) (rest : List ℕ) → filling_at s bytes ≡ found filling rest → is_fitting s filling ≡ true
unfolding filling_at
filling_fits s [] filling rest e = absurd cc
filling_fits s (zero ∷ bytes) filling rest e = ap (is_fitting s) (sym (same_found None filling bytes rest e))
filling_fits s (suc zero ∷ bytes) filling rest e = row_filled s (row_at s bytes) filling rest (λ row more k. row_is s bytes row more k) e
filling_fits s (suc (suc b) ∷ bytes) filling rest e = absurd cc

-- ---- so does each row of some writes

abbrev write_of : Slot → Option Row × List ℕ → Found Write
write_of s row = Some (record { slot = s; row = row.0 }, row.1)

write_found : (o : Found Slot) (f : Slot → List ℕ → Found (Option Row)) (w : Write) (rest : List ℕ) → ((s : Slot) (bytes : List ℕ) (filling : Option Row) (more : List ℕ) → f s bytes ≡ found filling more → is_fitting s filling ≡ true)
    → (o >>= λ slot. (f slot.0 slot.1 >>= write_of slot.0)) ≡ found w rest → is_fitting w.slot w.row ≡ true
write_found None f w rest fits e = absurd cc
write_found (Some slot) f w rest fits e = by (f slot.0 slot.1) refl e where
  by : (o : Found (Option Row)) → f slot.0 slot.1 ≡ o → (o >>= write_of slot.0) ≡ found w rest → is_fitting w.slot w.row ≡ true
  by None k e = absurd cc
  by (Some row) k e =
      ap (λ (v : Write). is_fitting v.slot v.row) (sym (same_found (record { slot = slot.0; row = row.0 }) w row.1 rest e)) ∙ fits slot.0 slot.1 row.0 row.1 k

write_fits : (bytes : List ℕ) (w : Write) (rest : List ℕ) → write_at bytes ≡ found w rest → is_fitting w.slot w.row ≡ true
unfolding write_at
write_fits bytes w rest e = write_found (slot_at bytes) filling_at w rest filling_fits e

abbrev with_first : Write → List Write × List ℕ → Found (List Write)
with_first w others = Some (w ∷ others.0, others.1)

items_found : (o : Found Write) (f : List ℕ → Found (List Write)) (ws : List Write) (rest : List ℕ) → ((w : Write) (more : List ℕ) → o ≡ found w more → is_fitting w.slot w.row ≡ true)
    → ((bytes : List ℕ) (vs : List Write) (more : List ℕ) → f bytes ≡ found vs more → are_fitting vs ≡ true) → (o >>= λ first. (f first.1 >>= with_first first.0)) ≡ found ws rest → are_fitting ws ≡ true
items_found None f ws rest one all e = absurd cc
items_found (Some first) f ws rest one all e = by (f first.1) refl e where
  by : (o : Found (List Write)) → f first.1 ≡ o → (o >>= with_first first.0) ≡ found ws rest → are_fitting ws ≡ true
  by None k e = absurd cc
  by (Some others) k e =
      let head = one first.0 first.1 refl in
      let tail = all first.1 others.0 others.1 k in
      let both : are_fitting (first.0 ∷ others.0) ≡ true = grind (arith, nat_tests) in
      ap are_fitting (sym (same_found (first.0 ∷ others.0) ws others.1 rest e)) ∙ both

items_fit : (n : ℕ) (bytes : List ℕ) (ws : List Write) (rest : List ℕ) → items_at write_at n bytes ≡ found ws rest → are_fitting ws ≡ true
unfolding items_at
items_fit zero bytes ws rest e = ap are_fitting (sym (same_found [] ws bytes rest e))
items_fit (suc n) bytes ws rest e = items_found (write_at bytes) (items_at write_at n) ws rest (λ w more k. write_fits bytes w more k) (items_fit n) e

list_found : (o : Found ℕ) (ws : List Write) (rest : List ℕ) → (o >>= λ n. items_at write_at n.0 n.1) ≡ found ws rest → are_fitting ws ≡ true
list_found None ws rest e = absurd cc
list_found (Some n) ws rest e = items_fit n.0 n.1 ws rest e

list_fits : (bytes : List ℕ) (ws : List Write) (rest : List ℕ) → list_at write_at bytes ≡ found ws rest → are_fitting ws ≡ true
unfolding list_at
list_fits bytes ws rest e = list_found (number_at bytes) ws rest e

-- ---- a commit that is read

-- the writes stand by their slots, and each row stands in its write's slot
pub record AreInPlace (ws : List Write) : Type 0 where
  pub rising : are_rising ws ≡ true
  pub fitting : are_fitting ws ≡ true

abbrev some_or : {X : Type 0} → X → Option X → X
some_or x None = x
some_or x (Some y) = y

same_some : {X : Type 0} (a b : X) → Some a ≡ Some b → a ≡ b
same_some a b e = ap (some_or a) e

none_left : (empty rises : Bool) (vs ws : List Write) → are_rising vs ≡ rises → are_fitting vs ≡ true → cond (empty && rises) (Some vs) None ≡ Some ws → AreInPlace ws
none_left true true vs ws up fit e = let same = same_some vs ws e in record { rising = ap are_rising (sym same) ∙ up; fitting = ap are_fitting (sym same) ∙ fit }
none_left true false vs ws up fit e = absurd cc
none_left false rises vs ws up fit e = absurd cc

abbrev all_of_them : List Write × List ℕ → Option (List Write)
all_of_them it = cond ((length it.1 == 0) && are_rising it.0) (Some it.0) None

writes_found : (o : Found (List Write)) (ws : List Write) → ((vs : List Write) (rest : List ℕ) → o ≡ found vs rest → are_fitting vs ≡ true)
    → (o >>= all_of_them) ≡ Some ws → AreInPlace ws
writes_found None ws fit e = absurd cc
writes_found (Some it) ws fit e = none_left (length it.1 == 0) (are_rising it.0) it.0 ws refl (fit it.0 it.1 refl) e

writes_in_place : (bytes : List ℕ) (ws : List Write) → writes_of bytes ≡ Some ws → AreInPlace ws
unfolding writes_of
writes_in_place bytes ws e = writes_found (list_at write_at bytes) ws (λ vs rest k. list_fits bytes vs rest k) e

commit_found : (o : Option (List Write)) (ws : List Write) → ((vs : List Write) → o ≡ Some vs → AreInPlace vs) → (o >>= λ it. Some (redo.Commit it)) ≡ Some (redo.Commit ws) → AreInPlace ws
commit_found None ws all e = absurd cc
commit_found (Some vs) ws all e = let same : vs ≡ ws = cc in all ws (ap Some same)

no_change : (o : Found ℕ) (ws : List Write) → (o >>= λ asker. Some (redo.Change asker.0 asker.1)) ≡ Some (redo.Commit ws) → ⊥
no_change None ws e = cc
no_change (Some asker) ws e = cc

said_in_place : (bytes : List ℕ) (ws : List Write) → said bytes ≡ Some (redo.Commit ws) → AreInPlace ws
unfolding said
said_in_place [] ws e = absurd cc
said_in_place (zero ∷ bytes) ws e = absurd cc
said_in_place (suc zero ∷ bytes) ws e = absurd (no_change (number_at bytes) ws e)
said_in_place (suc (suc zero) ∷ bytes) ws e = commit_found (writes_of bytes) ws (λ vs k. writes_in_place bytes vs k) e
said_in_place (suc (suc (suc kind)) ∷ bytes) ws e = absurd cc

sealed : (b : Bool) (o : Option RedoRecord) (ws : List Write) → cond b o None ≡ Some (redo.Commit ws) → o ≡ Some (redo.Commit ws)
sealed true o ws e = e
sealed false o ws e = absurd cc

pub read_in_place : (bytes : List ℕ) (ws : List Write) → record_of bytes ≡ Some (redo.Commit ws) → AreInPlace ws
unfolding record_of
read_in_place bytes ws e =
    let size = length bytes - 4 in
    said_in_place (take size bytes) ws (sealed (bytes_eq (drop size bytes) (to_be_bytes w32 (checksum (take size bytes)))) (said (take size bytes)) ws e)
