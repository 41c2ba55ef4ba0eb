-- The history of appends, and the writer that stands behind it.
use Rattle.std.specs.Prelude.{◌≡◌, ℕ, true, false, List, [], ◌∷◌, ◌++◌, Option}
use Rattle.atomic_table.specs.Seated.{TableId}
use Rattle.ifdb_io.specs.Causes.{Rose}
use Rattle.ifdb_disk.specs.Clock.{Clock, Leaves}
use Rattle.ifdb_journal.specs.declared.record.Record.{Record}
use Rattle.ifdb_journal.specs.Reading.{Holds, HasAllOrNone}
use Rattle.ifdb_turn.specs.Histories.{AllRight}
use Rattle.ifdb_durable.specs.declared.view.Flush.{Flush}
use Rattle.ifdb_durable.specs.declared.writer.Writer.{Writer}
use Rattle.ifdb_durable.specs.Writing.{told, in_hand, disk_of, HasSeat, Writes, IsIdle}

-- the writer adds no entries to the history of its turnstile
abbrev pub nothing_right : List ℕ → ℕ → Type 0
nothing_right h e = ⊥

abbrev pub no_root : ℕ → ℕ
no_root e = 0

module _ {D : Type 0} where
  -- this append is the last one
  abbrev pub IsLast : Flush D → List (Flush D) → Type 0
  IsLast d h = (front : List (Flush D)) × (h ≡ front ++ d ∷ [])

  -- this append is the first one, that of the opening
  abbrev pub IsFirst : Flush D → List (Flush D) → Type 0
  IsFirst d h = (rest : List (Flush D)) × (h ≡ d ∷ rest)

module _ {D : Type 0} (tells : D → Option Clock) (before : List Record) where
  -- since an append, a crash leaves what it left, with all of a further batch or none of it
  abbrev pub LeavesSince : Flush D → D → List Record → Type 0
  LeavesSince d disk batch = Leaves (tells d.disk) (tells disk) (HasAllOrNone (before ++ d.kept) batch)

  -- an append comes right after another
  pub record Follows (d e : Flush D) : Type 0 where
    pub batch : List Record
    pub adds : e.kept ≡ d.kept ++ batch
    pub leaves : LeavesSince d e.disk batch

  -- its disk holds what was kept, and it comes right after the last one
  pub record IsRight (h : List (Flush D)) (e : Flush D) : Type 0 where
    pub at : ℕ
    pub holds : Holds (tells e.disk) (before ++ e.kept) at
    pub follows : (d : Flush D) → IsLast d h → Follows d e

  -- The appends are right. The writer stands where the last one left it, with nothing in hand, and its disk has had no fault
  -- since the opening. Or its disk has failed: then it has had one, and a crash leaves what the last append left, with all of
  -- the batch in hand or none of it.
  pub record Stands {B : Type 0} (faults : D → ℕ) (id : TableId) (w : Writer B D) : Type 0 where
    pub order : AllRight IsRight (told w).flushes
    pub seat : HasSeat id w
    pub writes : w.has_failed ≡ false → Writes tells before id w
    pub idle : w.has_failed ≡ false → IsIdle w
    pub disk : w.has_failed ≡ false → (d : Flush D) → IsLast d (told w).flushes → d.disk ≡ disk_of w
    pub calm : w.has_failed ≡ false → (d : Flush D) → IsFirst d (told w).flushes → faults (disk_of w) ≡ faults d.disk
    pub left : w.has_failed ≡ true → (d : Flush D) → IsLast d (told w).flushes → LeavesSince d (disk_of w) (in_hand w)
    pub cause : w.has_failed ≡ true → (d : Flush D) → IsFirst d (told w).flushes → Rose (faults d.disk) (faults (disk_of w))
