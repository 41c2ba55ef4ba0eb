-- What a receipt is worth: what crashes leave of a disk since the last append that it knows of.
use Rattle.std.specs.Prelude.{ℕ, ◌≤◌, List, ◌∷◌, [], ◌++◌, length, take, Option}
use mathlib.Core.List.{IsPrefix}
use Rattle.ifdb_disk.specs.Clock.{Clock, Leaves}
use Rattle.ifdb_journal.specs.declared.record.Record.{Record}
use Rattle.ifdb_journal.specs.Records.{ReadsAs}
use Rattle.ifdb_turn.specs.Histories.{AllRight}
use Rattle.ifdb_durable.specs.declared.view.Flush.{Flush}
use Rattle.ifdb_durable.specs.Appends.{IsLast, IsRight}

-- an image reads whole, as the records of before and then the first ones of a list, at least so many
abbrev pub HasFront : List Record → List Record → ℕ → List ℕ → Type 0
HasFront before all least image = (n : ℕ) × (least ≤ n) × (n ≤ length all) × ReadsAs (before ++ take n all) image

-- What appends keep: of appends in order, what one kept stands first in what each later one kept. A crash at any moment since it,
-- up to the later one, leaves the records of before, and then a front of those that the later one kept, which has all that the
-- earlier one kept.
abbrev pub AppendsKeep : (D : Type 0) → (D → Option Clock) → Type 0
AppendsKeep D tells = (before : List Record) (h g : List (Flush D)) (d e : Flush D)
    → AllRight (IsRight tells before) (((h ++ d ∷ []) ++ g) ++ e ∷ [])
    → IsPrefix d.kept e.kept × Leaves (tells d.disk) (tells e.disk) (HasFront before e.kept (length d.kept))

-- What some appends are worth, of a disk and of all records that came: at each moment since the last of them was answered, each image
-- of the disk has the records of before and a front of these records, with all that the appends kept.
abbrev pub IsWorth : {D : Type 0} → (D → Option Clock) → List Record → D → List Record → List (Flush D) → Type 0
IsWorth tells before disk all flushes = (d : Flush _) → IsLast d flushes → Leaves (tells d.disk) (tells disk) (HasFront before all (length d.kept))
