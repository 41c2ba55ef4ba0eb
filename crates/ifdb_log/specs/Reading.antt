-- How far the texts of a log were read, what its disk holds then, and where it is damaged.
use Rattle.std.specs.Prelude.{◌≡◌, ◌⊎◌, ℕ, ◌+◌, Bool, true, false, List, [], ◌∷◌, ◌++◌, Option, Some, None}
use Rattle.ifdb_disk.specs.Clock.{Clock, Now}
use Rattle.ifdb_journal.specs.declared.record.Record.{Record}
use Rattle.ifdb_journal.specs.declared.record.JournalFault.{JournalFault}
use Rattle.ifdb_journal.specs.declared.record.JournalFault.TheVariants as journal
use Rattle.ifdb_journal.specs.Records.{damage, records}
use Rattle.ifdb_journal.specs.Reading.{Holds, IsReadTo, Place, ReadTo, SpellsWhole}
use Rattle.ifdb_log.specs.declared.fault.LogFault.{LogFault}
use Rattle.ifdb_log.specs.declared.fault.LogFault.TheVariants as fault
use Rattle.ifdb_log.specs.Pieces.{texts_behind, texts_of, with_texts}

-- a log: the place of its journal, and the text that was read last
pub record Reading : Type 0 where
  pub place : Place
  pub text : List ℕ

-- a text that was begun, if one was
abbrev pub begun_of : Bool → List ℕ → Option (List ℕ)
begun_of false text = None
begun_of true text = Some text

-- records are some texts, and then the first pieces of another, if one was begun: whatever follows is read as what stands behind these
abbrev pub AreUpTo : List Record → List (List ℕ) → Option (List ℕ) → Type 0
AreUpTo rs texts begun = (more : List Record) → texts_of (rs ++ more) ≡ with_texts texts (texts_behind begun more)

-- a disk holds a journal of which the records up to a place were read, all of it synced: these texts, and then the first pieces of another
abbrev pub HasReadUpTo : Option Clock → List (List ℕ) → Option (List ℕ) → Place → Type 0
HasReadUpTo t texts begun p = (rs : List Record) × ReadTo t rs p × AreUpTo rs texts begun

-- a disk holds a journal of which these texts were read, all of it synced
abbrev pub HasRead : Option Clock → List (List ℕ) → Place → Type 0
HasRead t texts p = HasReadUpTo t texts None p

-- the records that a disk's bytes spell
abbrev pub held : Option Clock → List Record
held None = []
held (Some c) = records c.now.bytes

-- a disk's bytes read whole, as records of these texts and no more, all of it is synced, and the closed gate stands at `at`
pub record HoldsTexts (t : Option Clock) (texts : List (List ℕ)) (at : ℕ) : Type 0 where
  pub holds : Holds t (held t) at
  pub whole : SpellsWhole t (held t)
  pub are_texts : Now t (λ s. texts_of (records s.bytes) ≡ Some texts)

-- ---- damage

-- at this place stands a record that is no piece, or a further piece where no text was begun: the records before it are texts, and with
-- it they are none
pub record HasOtherAt (bytes : List ℕ) (at : ℕ) : Type 0 where
  pub before : List Record
  pub other : Record
  pub next : ℕ
  pub read : List (List ℕ)
  pub up_to : IsReadTo bytes before at
  pub texts : texts_of before ≡ Some read
  pub there : IsReadTo bytes (before ++ other ∷ []) next
  pub none : texts_of (before ++ other ∷ []) ≡ None

-- the bytes behind a title are damaged at this place
abbrev pub IsDamagedAt : List ℕ → ℕ → Type 0
IsDamagedAt bytes at = (damage bytes ≡ Some at) ⊎ HasOtherAt bytes at

-- what a disk has behind a title is damaged at this byte of the file, whose title has 16 bytes
abbrev pub IsDamaged : Option Clock → ℕ → Type 0
IsDamaged t at = (place : ℕ) × (at ≡ 16 + place) × Now t (λ s. IsDamagedAt s.bytes place)

-- the fault of a journal, as that of the file whose title it lies behind
abbrev pub told : JournalFault → LogFault
told journal.Disk = fault.Disk
told (journal.Damaged at) = fault.Damaged (16 + at)
told journal.OutOfMemory = fault.OutOfMemory

-- Bytes that are damaged have no texts: they don't read whole, or their records are none.
abbrev pub DamagedHasNoTexts : Type 0
DamagedHasNoTexts = (bytes : List ℕ) (at : ℕ) → IsDamagedAt bytes at → damage bytes ≡ None → texts_of (records bytes) ≡ None
