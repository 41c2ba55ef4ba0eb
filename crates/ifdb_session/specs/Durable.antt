-- A room whose entries are recorded in a queue, and what a thread knows of the disk.
use Rattle.std.specs.Prelude.{◌≡◌, ℕ, ◌≤◌, true, List, length}
use Rattle.std.specs.List.{flat_map}
use Rattle.ifdb_redo.specs.declared.record.RedoRecord.{RedoRecord}
use Rattle.ifdb_log.specs.Pieces.{pieces, size_of}
use Rattle.ifdb_durable.specs.Queues.{Queued, all_of, free_of}
use Rattle.ifdb_durable.specs.declared.naming.Naming as naming
use Rattle.ifdb_durable.specs.declared.view.Told.{Told}
use Rattle.ifdb_durable.specs.Told.{Begins, kept_by}
use Rattle.ifdb_durable.specs.Groups.{IsMember, shares_of}
use Rattle.ifdb_session.specs.declared.durable.Durable.{Durable}
use Rattle.ifdb_session.specs.Texts.{texts_for, AreReadAgain}

-- all that came are the pieces of the texts of these records, and the texts are read again as these
pub record HasRecords (q : Queued) (rs : List RedoRecord) : Type 0 where
  pub all : all_of q ≡ flat_map pieces (texts_for rs)
  pub again : AreReadAgain rs

-- there is room for the pieces of a text
abbrev pub HasRoomFor : Queued → List ℕ → Type 0
HasRoomFor q text = size_of (length text) ≤ free_of q

-- how many pieces some texts have
abbrev pub count_of : List (List ℕ) → ℕ
count_of texts = length (flat_map pieces texts)

module _ {B D : Type 0} {named : naming.Ghosts B} where
  -- the thread may wait: its pass is one to the writer that all threads share
  abbrev pub IsReady : Durable B D named → Type 0
  IsReady s = IsMember s.group.now.writer s.member

  -- it was told of an append behind which so many records are on the disk, or more
  abbrev pub KnowsOnDisk : Durable B D named → ℕ → Type 0
  KnowsOnDisk s n = (receipt : Told D) × Begins receipt s.member.receipt × (n ≤ length (kept_by receipt))

  -- it was told that the disk has failed
  abbrev pub KnowsFailed : Durable B D named → Type 0
  KnowsFailed s = s.member.receipt.has_failed ≡ true

  -- the second is at the same writer, and was told all that the first one was
  abbrev pub GoesOn : Durable B D named → Durable B D named → Type 0
  GoesOn s t = (t.group ≡ s.group) × Begins s.member.receipt t.member.receipt

  -- it has so many shares of the writer
  abbrev pub HasShares : Durable B D named → ℕ → Type 0
  HasShares s n = shares_of s.member ≡ n
