-- What has a spelling: numbers of 64 bits, and texts in UTF-8. All that the code holds is so.
use Rattle.std.specs.Prelude.{◌≡◌, ℕ, ◌<◌, ◌^◌, true, List, length, Option, Some, None, All, FitsSigned, ⊤}
use Rattle.std.specs.Str.{IsUtf8}
use Rattle.std.specs.Int.{w64}
use Rattle.ifdb_value.specs.declared.value.Value.{Value}
use Rattle.ifdb_value.specs.declared.value.Value.TheVariants as v
use Rattle.ifdb_label.specs.Label.{is_rising}
use Rattle.ifdb_row.specs.declared.slot.Slot.{Slot}
use Rattle.ifdb_row.specs.declared.row.Row.{Row}
use Rattle.ifdb_row.specs.declared.write.Write.{Write}
use Rattle.ifdb_row.specs.Writes.{are_rising, are_fitting}
use Rattle.ifdb_redo.specs.declared.record.RedoRecord.{RedoRecord}
use Rattle.ifdb_redo.specs.declared.record.RedoRecord.TheVariants as redo

-- a number
abbrev pub IsNumber : ℕ → Type 0
IsNumber n = n < 2 ^ 64

-- a text
pub record IsWord (text : List ℕ) : Type 0 where
  pub utf8 : IsUtf8 text
  pub length : length text < 2 ^ 64

-- items of which each is so, and not too many to be counted
pub record AreListed {X : Type 0} (P : X → Type 0) (xs : List X) : Type 0 where
  pub each : All P xs
  pub length : length xs < 2 ^ 64

-- a value
abbrev pub IsValue : Value → Type 0
IsValue v.Null = ⊤
IsValue (v.Int z) = FitsSigned w64 z
IsValue (v.Text text) = IsWord text

-- a slot
pub record IsSlot (s : Slot) : Type 0 where
  pub table : IsNumber s.table
  pub key : AreListed IsValue s.key
  pub label : AreListed IsNumber s.label
  pub rising : is_rising s.label ≡ true

-- a row
pub record IsRow (r : Row) : Type 0 where
  pub values : AreListed IsValue r.values
  pub refs : AreListed IsSlot r.refs

-- a row, or none
abbrev pub IsFilling : Option Row → Type 0
IsFilling None = ⊤
IsFilling (Some r) = IsRow r

-- a write
pub record IsWrite (w : Write) : Type 0 where
  pub slot : IsSlot w.slot
  pub row : IsFilling w.row

-- the writes of a commit
abbrev pub AreWrites : List Write → Type 0
AreWrites ws = AreListed IsWrite ws

-- the writes of a commit, in the order of their slots, each row in its slot
pub record IsCommit (ws : List Write) : Type 0 where
  pub are : AreWrites ws
  pub rising : are_rising ws ≡ true
  pub fitting : are_fitting ws ≡ true

-- a record
abbrev pub IsRecord : RedoRecord → Type 0
IsRecord (redo.Change asker line) = IsNumber asker
IsRecord (redo.Commit ws) = IsCommit ws
