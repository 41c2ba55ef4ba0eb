-- decides: a compaction
-- What the texts of a log come to: the public changes among them, and the rows.
use Rattle.std.specs.Prelude.{◌≡◌, ℕ, ◌+◌, Bool, true, false, List, [], ◌∷◌, ◌++◌, Option, Some, None, if◌then◌else◌}
use Rattle.ifdb_disk.specs.Clock.{Clock}
use Rattle.ifdb_journal.specs.Reading.{Place}
use Rattle.ifdb_log.specs.Reading.{HasRead, HoldsTexts}
use Rattle.ifdb_redo.specs.declared.record.RedoRecord.{RedoRecord}
use Rattle.ifdb_redo.specs.declared.record.RedoRecord.TheVariants as redo
use Rattle.ifdb_redo.specs.Reading.{record_of}
use Rattle.ifdb_row.specs.declared.row.Row.{Row}
use Rattle.ifdb_row.specs.Content.{after}

-- it is a public change
abbrev pub is_change : Option RedoRecord → Bool
is_change None = false
is_change (Some (redo.Change asker line)) = true
is_change (Some (redo.Commit ws)) = false

-- the texts that are read as public changes
abbrev pub change_texts : List (List ℕ) → List (List ℕ)
change_texts [] = []
change_texts (text ∷ texts) = if is_change (record_of text) then text ∷ change_texts texts else change_texts texts

-- the rows after what a text is read as
abbrev pub with_writes : List Row → Option RedoRecord → List Row
with_writes rows None = rows
with_writes rows (Some (redo.Change asker line)) = rows
with_writes rows (Some (redo.Commit ws)) = after rows ws

-- the rows after some texts
abbrev pub rows_behind : List Row → List (List ℕ) → List Row
rows_behind rows [] = rows
rows_behind rows (text ∷ texts) = rows_behind (with_writes rows (record_of text)) texts

-- ---- an extract

-- texts of public changes, and rows
pub record Extracted : Type 0 where
  pub changes : List (List ℕ)
  pub rows : List Row

-- an extract with one text more
abbrev pub with_text : Extracted → List ℕ → Extracted
with_text x text = record {
  changes = if is_change (record_of text) then x.changes ++ text ∷ [] else x.changes;
  rows = with_writes x.rows (record_of text);
}

-- what some texts come to
abbrev pub extract_of : List (List ℕ) → Extracted
extract_of texts = record { changes = change_texts texts; rows = rows_behind [] texts }

-- a disk holds texts, all of them read, and this is what they come to
abbrev pub IsExtractOf : Option Clock → Extracted → Type 0
IsExtractOf t x = (texts : List (List ℕ)) × (at : ℕ) × HoldsTexts t texts at × (x ≡ extract_of texts)

-- a text of a log begins at this byte of the file that is no record
pub record HasBrokenAt (t : Option Clock) (at : ℕ) : Type 0 where
  pub before : List (List ℕ)
  pub broken : List ℕ
  pub place : Place
  pub next : Place
  pub up_to : HasRead t before place
  pub there : at ≡ 16 + place.at
  pub read : HasRead t (before ++ broken ∷ []) next
  pub none : record_of broken ≡ None
