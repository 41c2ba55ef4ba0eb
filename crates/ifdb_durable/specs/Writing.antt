-- What the writer has on its disk and in hand.
use Rattle.std.specs.Prelude.{◌≡◌, true, false, List, [], ◌∷◌, ◌++◌, length, Option}
use Rattle.atomic_table.specs.Seated.{TableId}
use Rattle.ifdb_disk.specs.Clock.{Clock, Leaves}
use Rattle.ifdb_journal.specs.declared.record.Record.{Record}
use Rattle.ifdb_journal.specs.Reading.{Holds, HasAllOrNone}
use Rattle.ifdb_durable.specs.declared.view.Flush.{Flush}
use Rattle.ifdb_durable.specs.declared.view.Told.{Told}
use Rattle.ifdb_durable.specs.declared.writer.Writer.{Writer}
use Rattle.ifdb_durable.specs.Told.{kept_by}
use Rattle.ifdb_durable.specs.Seats.{IsAt}

module _ {B D : Type 0} where
  -- the records that were taken out of the queue
  abbrev pub taken : Writer B D → List Record
  taken w = w.seat.me.0.taken

  -- the appends that were answered, and whether the disk has failed
  abbrev pub told : Writer B D → Told D
  told w = w.seat.me.0.told

  -- the records that are on the disk
  abbrev pub kept : Writer B D → List Record
  kept w = kept_by (told w)

  -- the records that are in hand: they were taken, and no append of them was answered; and the disk
  abbrev pub in_hand : Writer B D → List Record
  in_hand w = w.hand.batch.records

  abbrev pub disk_of : Writer B D → D
  disk_of w = w.hand.disk

  -- the append that left the writer as it is
  abbrev pub flush_of : Writer B D → Flush D
  flush_of w = record { disk = disk_of w; kept = taken w }

  -- the seat is the writer's, and what was taken is what is on the disk and what is in hand
  pub record HasSeat (id : TableId) (w : Writer B D) : Type 0 where
    pub at : IsAt id w.seat
    pub role : w.seat.me.0.is_writer ≡ true
    pub took : taken w ≡ kept w ++ in_hand w
    pub count : w.count ≡ length (taken w)
    pub written : w.written ≡ length (kept w)
    pub failed : w.has_failed ≡ (told w).has_failed

  -- the disk has not failed, and holds the records of before and those that are kept, and no more
  pub record Writes (tells : D → Option Clock) (before : List Record) (id : TableId) (w : Writer B D) : Type 0 where
    pub seat : HasSeat id w
    pub works : w.has_failed ≡ false
    pub holds : Holds (tells (disk_of w)) (before ++ kept w) w.journal.at

  -- nothing is in hand
  abbrev pub IsIdle : Writer B D → Type 0
  IsIdle w = in_hand w ≡ []

  -- the batch in hand was put on the disk, by one more append
  pub record HasWritten (old new : Writer B D) : Type 0 where
    pub all : told new ≡ record (told old) { flushes = (told old).flushes ++ flush_of new ∷ [] }
    pub same : taken new ≡ taken old
    pub none : in_hand new ≡ []

  -- the disk failed with the batch in hand
  pub record HasFailed (old new : Writer B D) : Type 0 where
    pub told : told new ≡ record (told old) { has_failed = true }
    pub fails : new.has_failed ≡ true
    pub same : taken new ≡ taken old
    pub hand : in_hand new ≡ in_hand old

  -- a crash at any moment since then leaves what was kept, with all of the batch in hand or none of it
  abbrev pub LeavesKept : (D → Option Clock) → List Record → Writer B D → Writer B D → Type 0
  LeavesKept tells before old new = Leaves (tells (disk_of old)) (tells (disk_of new)) (HasAllOrNone (before ++ kept old) (in_hand old))
