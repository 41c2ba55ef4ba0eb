-- What a seat at the mark has been told: which appends were answered, and whether the disk has failed.
use Rattle.std.specs.Prelude.{◌≡◌, true, false, List, [], ◌∷◌}
use mathlib.Core.List.{IsPrefix}
use Rattle.atomic_table.specs.Seated.{TableId}
use Rattle.ifdb_journal.specs.declared.record.Record.{Record}
use Rattle.ifdb_durable.specs.declared.view.Flush.{Flush}
use Rattle.ifdb_durable.specs.declared.view.Told.{Told}
use Rattle.ifdb_durable.specs.declared.view.View.{View}

-- stands where no table is named
abbrev pub no_table : TableId
no_table = record { words = 0; slots = 0; views_name = 0; atom = 0; block = 0; offset = 0; slot_names = [] }

module _ {D : Type 0} where
  -- the records that the last of some appends kept, where before them these were kept
  abbrev pub kept_from : List Record → List (Flush D) → List Record
  kept_from kept [] = kept
  kept_from kept (e ∷ h) = kept_from e.kept h

  -- the records that are known to be on the disk
  abbrev pub kept_by : Told D → List Record
  kept_by t = kept_from [] t.flushes

  -- nothing was told
  abbrev pub nothing : Told D
  nothing = record { flushes = []; has_failed = false }

  -- whoever was told the second was told the first
  abbrev pub Begins : Told D → Told D → Type 0
  Begins a b = IsPrefix a.flushes b.flushes × (a.has_failed ≡ true → b.has_failed ≡ true)

  -- the first seat, which lies with queue and writer
  abbrev pub opener : View D
  opener = record { is_queue = true; is_writer = true; taken = []; other = []; told = nothing; heard = nothing }

  -- the seat of one that only looks
  abbrev pub reader : Told D → View D
  reader t = record { is_queue = false; is_writer = false; taken = []; other = []; told = t; heard = nothing }
