-- decides: the journal
-- The records that the bytes of a journal spell.
--
-- A record is a gate byte, a kind byte (1 Open, 2 Ask, 3 Restart), the session as 8 bytes and the line's length as 4 bytes, both with
-- the greatest byte first, and the line. A gate of 0 ends the records. Any other gate stands before a whole record, behind which the
-- next gate stands.
use Rattle.std.specs.Prelude.{◌≡◌, ℕ, ◌+◌, ◌<◌, ◌^◌, zero, suc, Bool, true, ◌&&◌, ◌==◌, nat_lt, nat_le, List, [], ◌∷◌, ◌++◌, length, take, drop, get_or, Option, Some, None, if◌then◌else◌}
use Rattle.std.specs.Int.{w32, w64, to_be_bytes, from_be_bytes}
use Rattle.ifdb_journal.specs.Kinds.{kind_byte, kind_of, is_fine}
use Rattle.ifdb_journal.specs.declared.record.Record.{Record}

-- a record that may be written
pub record IsLawful (r : Record) : Type 0 where
  pub session : r.session < 2 ^ 64
  pub fine : is_fine (kind_byte r.kind) r.session (length r.line) ≡ true

-- a record behind its gate
abbrev pub body : Record → List ℕ
body r = kind_byte r.kind ∷ (to_be_bytes w64 r.session ++ (to_be_bytes w32 (length r.line) ++ r.line))

-- how many bytes some records take, each with its gate
abbrev pub bytes_of : List Record → ℕ
bytes_of [] = 0
bytes_of (r ∷ records) = 14 + length r.line + bytes_of records

-- ---- what stands behind an open gate

abbrev pub kind_at : List ℕ → ℕ
kind_at bytes = get_or bytes 0 0

abbrev pub session_at : List ℕ → ℕ
session_at bytes = from_be_bytes w64 (take 8 (drop 1 bytes))

abbrev pub size_at : List ℕ → ℕ
size_at bytes = from_be_bytes w32 (take 4 (drop 9 bytes))

-- a whole record stands there, and a gate behind it
abbrev pub is_whole : List ℕ → Bool
is_whole bytes = nat_le 14 (length bytes) && is_fine (kind_at bytes) (session_at bytes) (size_at bytes) && nat_lt (13 + size_at bytes) (length bytes)

abbrev pub record_at : List ℕ → Record
record_at bytes = record { kind = kind_of (kind_at bytes); session = session_at bytes; line = take (size_at bytes) (drop 13 bytes) }

-- ---- all of the bytes

-- the records from the next gate on, which stands behind so many bytes
abbrev pub scan : ℕ → List ℕ → List Record
scan skip [] = []
scan (suc skip) (b ∷ bytes) = scan skip bytes
scan zero (gate ∷ bytes) = if gate == 0 then [] else (if is_whole bytes then record_at bytes ∷ scan (13 + size_at bytes) bytes else [])

-- the place of the gate at which the bytes are damaged, if they are; the first byte has the place `at`
abbrev pub break : ℕ → ℕ → List ℕ → Option ℕ
break skip at [] = None
break (suc skip) at (b ∷ bytes) = break skip (at + 1) bytes
break zero at (gate ∷ bytes) = if gate == 0 then None else (if is_whole bytes then break (13 + size_at bytes) (at + 1) bytes else Some at)

-- the records; at most 1 byte has none
abbrev pub records : List ℕ → List Record
records bytes = if nat_le (length bytes) 1 then [] else scan 0 bytes

-- where the bytes are damaged, if they are
abbrev pub damage : List ℕ → Option ℕ
damage bytes = if nat_le (length bytes) 1 then None else break 0 0 bytes

-- some bytes read whole, as these records: they aren't damaged
pub record ReadsAs (rs : List Record) (bytes : List ℕ) : Type 0 where
  pub has : records bytes ≡ rs
  pub whole : damage bytes ≡ None

-- ---- bytes up to a gate

-- a front is these records with open gates, and whatever follows it is read as if it stood alone
pub record IsFront (front : List ℕ) (rs : List Record) : Type 0 where
  pub records : (gate : ℕ) (rest : List ℕ) → scan 0 (front ++ gate ∷ rest) ≡ rs ++ scan 0 (gate ∷ rest)
  pub breaks : (at gate : ℕ) (rest : List ℕ) → break 0 at (front ++ gate ∷ rest) ≡ break 0 (at + length front) (gate ∷ rest)

-- a text is some records with open gates, and a closed gate behind them
pub record Spells (text : List ℕ) (rs : List Record) : Type 0 where
  pub front : List ℕ
  pub split : text ≡ front ++ 0 ∷ []
  pub size : length front ≡ bytes_of rs
  pub is : IsFront front rs

-- some records that stand in room for so many bytes
pub record Gathered : Type 0 where
  pub records : List Record
  pub room : ℕ
