-- What is spelled is read again, whatever follows it.
use Rattle.std.proofs.Common.{◌≡◌, ℕ, suc, ◌-◌, ◌^◌, ◌<◌, Bool, true, false, ltb, nat_lt, List, [], ◌∷◌, ◌++◌, length, get_or, Option, Some, None, refl, sym, ap, ◌∙◌, append_assoc, arith}
use Rattle.std.specs.Prelude.{All, ℤ, pos, negsuc, FitsSigned}
use Rattle.std.specs.List.{flat_map}
use Rattle.std.specs.Int.{Width, w32, w64, byte_len, from_be_bytes, to_be_bytes, cast_unsigned}
use Rattle.std.proofs.lemmas.Bool.{le-ltb, false≢true}
use Rattle.std.proofs.lemmas.Bool.Decides.{nat_tests}
use Rattle.std.proofs.lemmas.List.{take_at, drop_at, length-append, append-nil}
use Rattle.std.proofs.lemmas.List.Folds.{list_all_at}
use Rattle.std.proofs.lemmas.List.Concat.{flat_map-cons}
use Rattle.std.proofs.lemmas.Nat.{from_be_bytes-to_be_bytes_4, from_be_bytes-to_be_bytes_8}
use Rattle.std.proofs.lemmas.Int.{to_z-of_z}
use Rattle.std.specs.Str.{bytes_eq}
use Rattle.std.proofs.lemmas.Slice.Eq.{bytes_eq-Decides}
use Rattle.std.proofs.lemmas.Str.{is_utf8-from_IsUtf8}
use Rattle.ifdb_value.specs.declared.value.Value.{Value}
use Rattle.ifdb_value.specs.declared.value.Value.TheVariants as v
use Rattle.ifdb_label.specs.Label.{is_rising}
use Rattle.ifdb_row.specs.declared.slot.Slot.{Slot}
use Rattle.ifdb_row.specs.declared.row.Row.{Row}
use Rattle.ifdb_row.specs.declared.write.Write.{Write}
use Rattle.ifdb_row.specs.Writes.{are_rising, are_fitting, is_fitting}
use Rattle.ifdb_row.proofs.SlotOrder.{slot_same}
use Rattle.ifdb_redo.specs.Checksum.{checksum}
use Rattle.ifdb_redo.specs.declared.record.RedoRecord.{RedoRecord}
use Rattle.ifdb_redo.specs.declared.record.RedoRecord.TheVariants as redo
use Rattle.ifdb_redo.specs.Spelling.{number, word, value, list, slot, filling, write, writes, body, sealed, text}
use Rattle.ifdb_redo.specs.Spelled.{IsNumber, IsWord, AreListed, IsValue, IsSlot, IsRow, IsFilling, IsWrite, AreWrites, IsRecord}
use Rattle.ifdb_redo.specs.Reading.{Found, wide_at, number_at, word_at, value_at, items_at, list_at, label_at, slot_at, row_at, filling_at, write_at, writes_of, said, record_of}

-- ---- numbers

pub record IsWide (w : Width) (limit : ℕ) : Type 0 where
  pub len : (n : ℕ) → length (to_be_bytes w n) ≡ byte_len w
  pub again : (n : ℕ) → n < limit → from_be_bytes w (to_be_bytes w n) ≡ n

wide32 : IsWide w32 (2 ^ 32)
wide32 = record { len = λ n. refl; again = λ n lt. from_be_bytes-to_be_bytes_4 n lt }

wide64 : IsWide w64 (2 ^ 64)
wide64 = record { len = λ n. refl; again = λ n lt. from_be_bytes-to_be_bytes_8 n lt }

wide_again : (w : Width) (limit : ℕ) (wide : IsWide w limit) (n : ℕ) (rest : List ℕ) → n < limit → wide_at w (to_be_bytes w n ++ rest) ≡ Some (n, rest)
wide_again w limit wide n rest lt =
    let len = wide.len n in
    let long : ltb (length (to_be_bytes w n ++ rest)) (byte_len w) ≡ false = le-ltb _ _ (omega (arith, length-append (to_be_bytes w n) rest)) in
    rw (long, take_at (to_be_bytes w n) rest (byte_len w) len, drop_at (to_be_bytes w n) rest (byte_len w) len, wide.again n lt) refl

small_again : (n : ℕ) (rest : List ℕ) → nat_lt n 254 ≡ true → number_at (n ∷ rest) ≡ Some (n, rest)
unfolding number_at
small_again n rest lt = grind (arith, nat_tests)

pub number_again : (n : ℕ) (rest : List ℕ) → IsNumber n → number_at (number n ++ rest) ≡ Some (n, rest)
unfolding number_at
number_again n rest lt = by (nat_lt n 254) refl (nat_lt n (2 ^ 32)) refl where
  by : (a : Bool) → nat_lt n 254 ≡ a → (b : Bool) → nat_lt n (2 ^ 32) ≡ b → number_at (number n ++ rest) ≡ Some (n, rest)
  by true e b k = rw e (small_again n rest e)
  by false e true k = rw (e, k) (wide_again w32 (2 ^ 32) wide32 n rest (grind (arith, nat_tests)))
  by false e false k = rw (e, k) (wide_again w64 (2 ^ 64) wide64 n rest lt)

-- ---- texts and values

-- the 64 bits of a number
bits_number : (z : ℤ) → FitsSigned w64 z → IsNumber (cast_unsigned w64 z)
bits_number (pos n) fits = omega (arith, fits.sfits)
bits_number (negsuc n) fits = omega arith

pub word_again : (text rest : List ℕ) → IsWord text → word_at (word text ++ rest) ≡ Some (text, rest)
unfolding word_at
word_again text rest is =
    let regrouped : word text ++ rest ≡ number (length text) ++ (text ++ rest) = append_assoc (number (length text)) text rest in
    let long : ltb (length (text ++ rest)) (length text) ≡ false = le-ltb _ _ (omega (arith, length-append text rest)) in
    ap word_at regrouped ∙ rw (number_again (length text) (text ++ rest) is.length, long, take_at text rest (length text) refl, drop_at text rest (length text) refl, is_utf8-from_IsUtf8 text is.utf8) refl

pub value_again : (x : Value) (rest : List ℕ) → IsValue x → value_at (value x ++ rest) ≡ Some (x, rest)
unfolding value_at
value_again v.Null rest is = refl
value_again (v.Int z) rest is = rw (number_again (cast_unsigned w64 z) rest (bits_number z is), to_z-of_z w64 z is) refl
value_again (v.Text text) rest is = rw (word_again text rest is) refl

-- ---- lists

-- items of which each is read again
abbrev pub AreAgain : {X : Type 0} → (List ℕ → Found X) → (X → List ℕ) → (X → Type 0) → Type 0
AreAgain {X} item text P = (x : X) (rest : List ℕ) → P x → item (text x ++ rest) ≡ Some (x, rest)

All-rest : {X : Type 0} (P : X → Type 0) (x : X) (xs : List X) → All P (x ∷ xs) → All P xs
All-rest P x xs all k d lt = all (suc k) d (omega arith)

items_again : {X : Type 0} (item : List ℕ → Found X) (text : X → List ℕ) (P : X → Type 0) → AreAgain item text P → (xs : List X) (rest : List ℕ) → All P xs → items_at item (length xs) (flat_map text xs ++ rest) ≡ Some (xs, rest)
unfolding items_at
items_again item text P again [] rest all = refl
items_again item text P again (x ∷ xs) rest all =
    let regrouped : flat_map text (x ∷ xs) ++ rest ≡ text x ++ (flat_map text xs ++ rest) = ap (λ (y : List ℕ). y ++ rest) (flat_map-cons text x xs) ∙ append_assoc (text x) (flat_map text xs) rest in
    ap (items_at item (suc (length xs))) regrouped ∙ rw (again x (flat_map text xs ++ rest) (all 0 x (omega arith)), items_again item text P again xs rest (All-rest P x xs all)) refl

pub list_again : {X : Type 0} (item : List ℕ → Found X) (text : X → List ℕ) (P : X → Type 0) → AreAgain item text P → (xs : List X) (rest : List ℕ) → AreListed P xs → list_at item (list text xs ++ rest) ≡ Some (xs, rest)
unfolding list_at
list_again item text P again xs rest are =
    let regrouped : list text xs ++ rest ≡ number (length xs) ++ (flat_map text xs ++ rest) = append_assoc (number (length xs)) (flat_map text xs) rest in
    ap (list_at item) regrouped ∙ rw (number_again (length xs) (flat_map text xs ++ rest) are.length, items_again item text P again xs rest are.each) refl

-- ---- slots

label_again : (label rest : List ℕ) → AreListed IsNumber label → is_rising label ≡ true → label_at (list number label ++ rest) ≡ Some (label, rest)
unfolding label_at
label_again label rest are rising = rw (list_again number_at number IsNumber number_again label rest are, rising) refl

pub slot_again : (s : Slot) (rest : List ℕ) → IsSlot s → slot_at (slot s ++ rest) ≡ Some (s, rest)
unfolding slot_at
slot_again s rest is =
    let regrouped : slot s ++ rest ≡ number s.table ++ (list value s.key ++ (list number s.label ++ rest)) =
    append_assoc (number s.table) (list value s.key ++ list number s.label) rest ∙ ap (λ (x : List ℕ). number s.table ++ x) (append_assoc (list value s.key) (list number s.label) rest) in
    ap slot_at regrouped ∙ rw (number_again s.table (list value s.key ++ (list number s.label ++ rest)) is.table, list_again value_at value IsValue value_again s.key (list number s.label ++ rest) is.key, label_again s.label rest is.label is.rising) refl

-- ---- writes

row_again : (r : Row) (rest : List ℕ) → IsRow r → row_at r.slot (list value r.values ++ (list slot r.refs ++ rest)) ≡ Some (r, rest)
unfolding row_at
row_again r rest is = rw (list_again value_at value IsValue value_again r.values (list slot r.refs ++ rest) is.values, list_again slot_at slot IsSlot slot_again r.refs rest is.refs) refl

filling_again : (s : Slot) (row : Option Row) (rest : List ℕ) → IsFilling row → is_fitting s row ≡ true → filling_at s (filling row ++ rest) ≡ Some (row, rest)
unfolding filling_at
filling_again s None rest is fits = refl
filling_again s (Some r) rest is fits =
    let regrouped : (list value r.values ++ list slot r.refs) ++ rest ≡ list value r.values ++ (list slot r.refs ++ rest) = append_assoc (list value r.values) (list slot r.refs) rest in
    let read : row_at s ((list value r.values ++ list slot r.refs) ++ rest) ≡ Some (r, rest) = ap (row_at s) regrouped ∙ ap (λ (t : Slot). row_at t (list value r.values ++ (list slot r.refs ++ rest))) (sym (slot_same r.slot s fits)) ∙ row_again r rest is in
    rw read refl

-- a write whose row has its slot
pub record IsWhole (w : Write) : Type 0 where
  pub is : IsWrite w
  pub fits : is_fitting w.slot w.row ≡ true

write_again : (w : Write) (rest : List ℕ) → IsWhole w → write_at (write w ++ rest) ≡ Some (w, rest)
unfolding write_at
write_again w rest whole =
    let regrouped : write w ++ rest ≡ slot w.slot ++ (filling w.row ++ rest) = append_assoc (slot w.slot) (filling w.row) rest in
    ap write_at regrouped ∙ rw (slot_again w.slot (filling w.row ++ rest) whole.is.slot, filling_again w.slot w.row rest whole.is.row whole.fits) refl

each_whole : (ws : List Write) → All IsWrite ws → are_fitting ws ≡ true → All IsWhole ws
each_whole ws all fits k d lt = by (is_fitting (get_or ws k d).slot (get_or ws k d).row) refl where
  by : (b : Bool) → is_fitting (get_or ws k d).slot (get_or ws k d).row ≡ b → IsWhole (get_or ws k d)
  by true e = record { is = all k d lt; fits = e }
  by false e = absurd (false≢true (sym (list_all_at (λ (w : Write). is_fitting w.slot w.row) ws k d lt e) ∙ fits))

pub writes_again : (ws : List Write) → AreWrites ws → are_rising ws ≡ true → are_fitting ws ≡ true → writes_of (writes ws) ≡ Some ws
unfolding writes_of
writes_again ws are rising fits =
    let read : list_at write_at (writes ws) ≡ Some (ws, []) = ap (list_at write_at) (sym (append-nil (writes ws))) ∙ list_again write_at write IsWhole write_again ws [] (record { each = each_whole ws are.each fits; length = are.length }) in
    rw (read, rising) refl

-- ---- whole records

said_again : (r : RedoRecord) → IsRecord r → said (body r) ≡ Some r
unfolding said
said_again (redo.Change asker line) is = rw (number_again asker line is) refl
said_again (redo.Commit ws) is = rw (writes_again ws is.are is.rising is.fitting) refl

sealed_again : (bytes : List ℕ) → record_of (sealed bytes) ≡ said bytes
unfolding record_of
sealed_again bytes =
    let sum : List ℕ = to_be_bytes w32 (checksum bytes) in
    let size : length (bytes ++ sum) - 4 ≡ length bytes = omega (arith, length-append bytes sum, wide32.len (checksum bytes)) in
    let same : bytes_eq sum sum ≡ true = (bytes_eq-Decides sum sum).1 refl in
    rw (size, take_at bytes sum (length bytes) refl, drop_at bytes sum (length bytes) refl, same) refl

pub record_again : (r : RedoRecord) → IsRecord r → record_of (text r) ≡ Some r
record_again r is = sealed_again (body r) ∙ said_again r is

-- the same of bytes that are put together
pub change_again : (bytes : List ℕ) (asker : ℕ) (line : List ℕ) → bytes ≡ text (redo.Change asker line) → IsNumber asker → record_of bytes ≡ Some (redo.Change asker line)
change_again bytes asker line e is = ap record_of e ∙ record_again (redo.Change asker line) is

pub commit_again : (bytes : List ℕ) (ws : List Write) → bytes ≡ text (redo.Commit ws) → AreWrites ws → are_rising ws ≡ true → are_fitting ws ≡ true → record_of bytes ≡ Some (redo.Commit ws)
commit_again bytes ws e are rising fits = ap record_of e ∙ record_again (redo.Commit ws) (record { are = are; rising = rising; fitting = fits })
