-- decides: the service
-- Redo records as texts.
use Rattle.std.specs.Prelude.{◌≡◌, ℕ, List, map, Some}
use Rattle.ifdb_redo.specs.declared.record.RedoRecord.{RedoRecord}
use Rattle.ifdb_redo.specs.Reading.{record_of}
use Rattle.ifdb_redo.specs.Spelling.{text}

-- the texts of some records
abbrev pub texts_for : List RedoRecord → List (List ℕ)
texts_for rs = map text rs

-- this is the text of a record, and is read again as that
abbrev pub IsTextOf : List ℕ → RedoRecord → Type 0
IsTextOf t r = (t ≡ text r) × (record_of t ≡ Some r)

-- so it is with the texts of some records
abbrev pub AreReadAgain : List RedoRecord → Type 0
AreReadAgain rs = map record_of (texts_for rs) ≡ map Some rs
