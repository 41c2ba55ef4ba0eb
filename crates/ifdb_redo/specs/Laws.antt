-- What is true of every record.
use Rattle.std.specs.Prelude.{◌≡◌, ◌≢◌, ◌<◌, ◌^◌, ℕ, List, ◌∷◌, ◌++◌, Some, None, All}
use Rattle.ifdb_redo.specs.declared.record.RedoRecord.{RedoRecord}
use Rattle.ifdb_redo.specs.Spelling.{text}
use Rattle.ifdb_redo.specs.Spelled.{IsRecord}
use Rattle.ifdb_redo.specs.Reading.{record_of}

-- what is spelled is read again
abbrev pub RecordsAreReadAgain : Type 0
RecordsAreReadAgain = (r : RedoRecord) → IsRecord r → record_of (text r) ≡ Some r

-- a byte
abbrev pub IsByte : ℕ → Type 0
IsByte b = b < 2 ^ 8

-- bytes that are a record, and the same with one of them changed, which are none
abbrev pub ChangedBytesAreRefused : Type 0
ChangedBytesAreRefused = (front back : List ℕ) (a b : ℕ) (r : RedoRecord) → All IsByte (front ++ a ∷ back) → IsByte b → a ≢ b
    → record_of (front ++ a ∷ back) ≡ Some r → record_of (front ++ b ∷ back) ≡ None
