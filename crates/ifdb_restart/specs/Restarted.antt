-- decides: a served database
-- The log that the texts of redo records restore.
use Rattle.std.specs.Prelude.{◌≡◌, ℕ, ◌+◌, List, [], ◌∷◌, ◌++◌, length, map, Option, Some, None, IsSome}
use Rattle.std.specs.Option.{unwrap_or}
use Rattle.ifdb_disk.specs.Clock.{Clock}
use Rattle.ifdb_journal.specs.Reading.{Place}
use Rattle.ifdb_log.specs.Reading.{HasRead, HoldsTexts}
use Rattle.ifdb_redo.specs.declared.record.RedoRecord.{RedoRecord}
use Rattle.ifdb_redo.specs.Reading.{record_of}
use Rattle.ifdb_model.specs.Log.{Entry}
use Rattle.ifdb_restore.specs.Passing.{commit_fits}
use Rattle.ifdb_restore.specs.Redone.{grown, restored}
use Rattle.ifdb_db.specs.Reading.{read_line}
use Rattle.ifdb_db.specs.Redoing.{closed_state}
use Rattle.ifdb_db.specs.Room.{Hall, StandsFor}

-- a log with what a text is read as, if it is a record that fits
abbrev pub with_record : Option (List Entry) → Option RedoRecord → Option (List Entry)
with_record log None = None
with_record log (Some r) = grown read_line commit_fits log r

-- the log that texts restore behind another, if each is a record that fits
abbrev pub log_behind : Option (List Entry) → List (List ℕ) → Option (List Entry)
log_behind log [] = log
log_behind log (text ∷ texts) = log_behind (with_record log (record_of text)) texts

-- the log that texts restore
abbrev pub log_of : List (List ℕ) → Option (List Entry)
log_of texts = log_behind (Some []) texts

-- ---- the records that were made again, which contracts alone see

module _ {A : Type 0} where
  -- the records alone
  abbrev pub records_in : List (RedoRecord × A) → List RedoRecord
  records_in made = map (λ m. m.0) made

  -- the log that they restore
  abbrev pub log_in : List (RedoRecord × A) → List Entry
  log_in made = unwrap_or (restored read_line commit_fits [] (records_in made)) []

  -- one more was made again, that which the text is read as
  abbrev pub HasOneMore : List (RedoRecord × A) → List (RedoRecord × A) → List ℕ → Type 0
  HasOneMore old new text = (r : RedoRecord) × (record_of text ≡ Some r) × (records_in new ≡ records_in old ++ r ∷ [])

-- ---- rooms

-- the room has no sessions, and stands for a log
abbrev pub IsClosedOver : Hall → List Entry → Type 0
IsClosedOver h log = StandsFor h (closed_state log)

-- whatever log a room stood for, it came to stand for the one that a text restores behind it
abbrev pub IsLonger : Hall → Hall → List ℕ → Type 0
IsLonger h k text = (log : List Entry) → IsClosedOver h log → (more : List Entry) × (with_record (Some log) (record_of text) ≡ Some more) × IsClosedOver k more

-- whatever log a room stands for, a text restores none behind it
abbrev pub IsUnfit : Hall → List ℕ → Type 0
IsUnfit h text = (log : List Entry) → IsClosedOver h log → with_record (Some log) (record_of text) ≡ None

-- some texts restore a log, and a room without sessions stands for it
pub record IsRestored (texts : List (List ℕ)) (log : List Entry) (h : Hall) : Type 0 where
  pub is : log_of texts ≡ Some log
  pub stands : IsClosedOver h log
  pub nobody : length h.clients ≡ 0

-- ---- disks

-- a disk holds texts, all of them read, which restore a log, and a room stands for it
abbrev pub IsRestarted : Option Clock → ℕ → List Entry → Hall → Type 0
IsRestarted t at log h = (texts : List (List ℕ)) × HoldsTexts t texts at × IsRestored texts log h

-- a text of a log begins at this byte of the file, which restores nothing behind the log that those before it restore
pub record HasUnfitAt (t : Option Clock) (at : ℕ) : Type 0 where
  pub before : List (List ℕ)
  pub unfit : List ℕ
  pub place : Place
  pub next : Place
  pub up_to : HasRead t before place
  pub there : at ≡ 16 + place.at
  pub read : HasRead t (before ++ unfit ∷ []) next
  pub restores : IsSome (log_of before)
  pub none : log_of (before ++ unfit ∷ []) ≡ None
