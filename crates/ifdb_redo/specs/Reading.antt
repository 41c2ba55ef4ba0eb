-- decides: a served database
-- Bytes, read as what is recorded.
use Rattle.std.specs.Prelude.{◌≡◌, ℕ, zero, suc, ◌&&◌, ◌==◌, ◌-◌, List, [], ◌∷◌, length, take, drop, nat_lt, Option, Some, None, Result, Ok, Err, if◌then◌else◌}
use Rattle.std.specs.Str.{bytes_eq, is_utf8}
use Rattle.std.specs.Int.{Width, w32, w64, byte_len, from_be_bytes, to_be_bytes, cast_signed}
use Rattle.ifdb_value.specs.declared.value.Value.{Value}
use Rattle.ifdb_value.specs.declared.value.Value.TheVariants as v
use Rattle.ifdb_label.specs.Label.{is_rising}
use Rattle.ifdb_row.specs.declared.slot.Slot.{Slot}
use Rattle.ifdb_row.specs.declared.row.Row.{Row}
use Rattle.ifdb_row.specs.declared.write.Write.{Write}
use Rattle.ifdb_row.specs.Writes.{are_rising}
use Rattle.ifdb_redo.specs.declared.record.RedoRecord.{RedoRecord}
use Rattle.ifdb_redo.specs.declared.record.RedoRecord.TheVariants as redo
use Rattle.ifdb_redo.specs.Checksum.{checksum}
use Rattle.ifdb_redo.specs.declared.fault.ReadFault.{ReadFault}
use Rattle.ifdb_redo.specs.declared.fault.ReadFault.TheVariants as fault

infixl 10 ◌>>=◌
abbrev pub ◌>>=◌ : {A B : Type 0} → Option A → (A → Option B) → Option B
None >>= f = None
(Some x) >>= f = f x

-- what was found at the front of some bytes, and the bytes behind it
abbrev pub Found : Type 0 → Type 0
Found X = Option (X × List ℕ)

-- What a call answers is what the bytes are read as, unless memory runs out.
abbrev pub Fails : {Y : Type 0} → ReadFault → Option Y → Type 0
Fails fault.OutOfMemory read = Unit {0}
Fails fault.Broken read = read ≡ None

abbrev pub Gives : {X Y : Type 0} → (X → Y) → Result X ReadFault → Option Y → Type 0
Gives view (Ok x) read = read ≡ Some (view x)
Gives view (Err e) read = Fails e read

-- some bytes as a number
abbrev pub wide_at : Width → List ℕ → Found ℕ
wide_at w bytes = if nat_lt (length bytes) (byte_len w) then None else Some (from_be_bytes w (take (byte_len w) bytes), drop (byte_len w) bytes)

unfoldable pub number_at : List ℕ → Found ℕ
number_at [] = None
number_at (b ∷ rest) = if b == 255 then wide_at w64 rest else (if b == 254 then wide_at w32 rest else Some (b, rest))

unfoldable pub word_at : List ℕ → Found (List ℕ)
word_at bytes = do
  n ← number_at bytes
  if nat_lt (length n.1) n.0 then None else (if is_utf8 (take n.0 n.1) then Some (take n.0 n.1, drop n.0 n.1) else None)

unfoldable pub value_at : List ℕ → Found Value
value_at [] = None
value_at (zero ∷ rest) = Some (v.Null, rest)
value_at (suc zero ∷ rest) = do
  n ← number_at rest
  Some (v.Int (cast_signed w64 n.0), n.1)
value_at (suc (suc zero) ∷ rest) = do
  text ← word_at rest
  Some (v.Text text.0, text.1)
value_at (suc (suc (suc b)) ∷ rest) = None

-- so many items
unfoldable pub items_at : {X : Type 0} → (List ℕ → Found X) → ℕ → List ℕ → Found (List X)
items_at item zero bytes = Some ([], bytes)
items_at item (suc n) bytes = do
  first ← item bytes
  others ← items_at item n first.1
  Some (first.0 ∷ others.0, others.1)

-- their number, and then the items
unfoldable pub list_at : {X : Type 0} → (List ℕ → Found X) → List ℕ → Found (List X)
list_at item bytes = do
  n ← number_at bytes
  items_at item n.0 n.1

unfoldable pub label_at : List ℕ → Found (List ℕ)
label_at bytes = do
  tags ← list_at number_at bytes
  if is_rising tags.0 then Some (tags.0, tags.1) else None

unfoldable pub slot_at : List ℕ → Found Slot
slot_at bytes = do
  table ← number_at bytes
  key ← list_at value_at table.1
  label ← label_at key.1
  Some (record { table = table.0; key = key.0; label = label.0 }, label.1)

-- a row of the slot
unfoldable pub row_at : Slot → List ℕ → Found Row
row_at slot bytes = do
  values ← list_at value_at bytes
  refs ← list_at slot_at values.1
  Some (record { slot = slot; values = values.0; refs = refs.0 }, refs.1)

-- what is to stand in the slot
unfoldable pub filling_at : Slot → List ℕ → Found (Option Row)
filling_at slot [] = None
filling_at slot (zero ∷ rest) = Some (None, rest)
filling_at slot (suc zero ∷ rest) = do
  row ← row_at slot rest
  Some (Some row.0, row.1)
filling_at slot (suc (suc b) ∷ rest) = None

unfoldable pub write_at : List ℕ → Found Write
write_at bytes = do
  slot ← slot_at bytes
  row ← filling_at slot.0 slot.1
  Some (record { slot = slot.0; row = row.0 }, row.1)

-- all of the bytes, as writes that stand by their slots
unfoldable pub writes_of : List ℕ → Option (List Write)
writes_of bytes = do
  ws ← list_at write_at bytes
  if (length ws.1 == 0) && are_rising ws.0 then Some ws.0 else None

-- ---- whole records

-- what a record says
unfoldable pub said : List ℕ → Option RedoRecord
said [] = None
said (zero ∷ rest) = None
said (suc zero ∷ rest) = do
  asker ← number_at rest
  Some (redo.Change asker.0 asker.1)
said (suc (suc zero) ∷ rest) = do
  ws ← writes_of rest
  Some (redo.Commit ws)
said (suc (suc (suc kind)) ∷ rest) = None

-- all of the bytes, as a record whose last four are the checksum of those before them
unfoldable pub record_of : List ℕ → Option RedoRecord
record_of bytes =
    let size = length bytes - 4 in
    if bytes_eq (drop size bytes) (to_be_bytes w32 (checksum (take size bytes))) then said (take size bytes) else None
