-- decides: a served database
-- What is recorded, as bytes.
use Rattle.std.specs.Prelude.{ℕ, ◌^◌, List, [], ◌∷◌, ◌++◌, length, flat_map, nat_lt, Option, Some, None, if◌then◌else◌}
use Rattle.std.specs.Int.{w32, w64, to_be_bytes, cast_unsigned}
use Rattle.ifdb_value.specs.declared.value.Value.{Value}
use Rattle.ifdb_value.specs.declared.value.Value.TheVariants as v
use Rattle.ifdb_row.specs.declared.slot.Slot.{Slot}
use Rattle.ifdb_row.specs.declared.row.Row.{Row}
use Rattle.ifdb_row.specs.declared.write.Write.{Write}
use Rattle.ifdb_redo.specs.declared.record.RedoRecord.{RedoRecord}
use Rattle.ifdb_redo.specs.declared.record.RedoRecord.TheVariants as redo
use Rattle.ifdb_redo.specs.Checksum.{checksum}

-- a number: below 254 one byte; else 254 and four bytes, or 255 and eight, the greatest first
abbrev pub number : ℕ → List ℕ
number n = if nat_lt n 254 then n ∷ [] else (if nat_lt n (2 ^ 32) then 254 ∷ to_be_bytes w32 n else 255 ∷ to_be_bytes w64 n)

-- a text: its length, and its bytes
abbrev pub word : List ℕ → List ℕ
word text = number (length text) ++ text

-- a value: its kind, and what it is; a number as an i64's 64 bits
abbrev pub value : Value → List ℕ
value v.Null = 0 ∷ []
value (v.Int z) = 1 ∷ number (cast_unsigned w64 z)
value (v.Text text) = 2 ∷ word text

-- a list: how many items it has, and each of them
abbrev pub list : {X : Type 0} → (X → List ℕ) → List X → List ℕ
list item xs = number (length xs) ++ flat_map item xs

-- a slot: its table, its key, and its label
abbrev pub slot : Slot → List ℕ
slot s = number s.table ++ (list value s.key ++ list number s.label)

-- what is to stand in a slot: nothing, or values and the slots of parents
abbrev pub filling : Option Row → List ℕ
filling None = 0 ∷ []
filling (Some r) = 1 ∷ (list value r.values ++ list slot r.refs)

-- a write: its slot, and what is to stand there
abbrev pub write : Write → List ℕ
write w = slot w.slot ++ filling w.row

-- the writes of a commit
abbrev pub writes : List Write → List ℕ
writes ws = list write ws

-- ---- whole records

-- what a record says: its kind, and then who asked for a public change and by which line, or the writes of a commit
abbrev pub body : RedoRecord → List ℕ
body (redo.Change asker line) = 1 ∷ (number asker ++ line)
body (redo.Commit ws) = 2 ∷ writes ws

-- bytes with their checksum behind them
abbrev pub sealed : List ℕ → List ℕ
sealed bytes = bytes ++ to_be_bytes w32 (checksum bytes)

-- a record
abbrev pub text : RedoRecord → List ℕ
text r = sealed (body r)
