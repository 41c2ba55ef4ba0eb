-- The seats at the mark.
use Rattle.std.specs.Prelude.{◌≡◌, true, List, []}
use Rattle.atomic_table.specs.Seated.{TableId}
use Rattle.atomic_table.specs.declared.shared.Seat.{Seat}
use Rattle.ifdb_journal.specs.declared.record.Record.{Record}
use Rattle.ifdb_durable.specs.declared.view.Hand.{Hand}
use Rattle.ifdb_durable.specs.declared.view.View.{View}
use Rattle.ifdb_durable.specs.declared.mark.Opened.{Opened}
use Rattle.ifdb_durable.specs.Told.{nothing, opener}

-- a seat at the mark of a disk
abbrev pub SeatOf : Type 0 → Type 0
SeatOf D = Seat (Hand D) (View D)

module _ {D : Type 0} where
  -- a seat at this table, which holds no slot
  abbrev pub IsAt : TableId → SeatOf D → Type 0
  IsAt id s = (s.table_id ≡ id) × (s.me.1 ≡ [])

  -- the first seat, that of both, which knows of no records
  pub record IsBoth (id : TableId) (s : SeatOf D) : Type 0 where
    pub at : IsAt id s
    pub queue : s.me.0.is_queue ≡ true
    pub writer : s.me.0.is_writer ≡ true
    pub took : s.me.0.taken ≡ []
    pub told : s.me.0.told ≡ nothing

  -- the seat of the queue
  pub record IsQueueSeat (id : TableId) (taken : List Record) (s : SeatOf D) : Type 0 where
    pub at : IsAt id s
    pub role : s.me.0.is_queue ≡ true
    pub took : s.me.0.taken ≡ taken

  -- a new mark, with the first seat
  pub record IsOpened (o : Opened D) : Type 0 where
    pub words : o.table.shared.table_id.words ≡ 2
    pub seat : o.seat.table_id ≡ o.table.shared.table_id
    pub me : o.seat.me ≡ (opener, [])
