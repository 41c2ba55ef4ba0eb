-- The queue, as contracts see it.
use Rattle.std.specs.Prelude.{ℕ, ◌-◌, ◌^◌, min, List, ◌++◌, length}
use Rattle.ifdb_journal.specs.declared.record.Record.{Record}
use Rattle.ifdb_journal.specs.Records.{bytes_of}

-- the records that were taken, those that wait behind them, and the room for these
pub record Queued : Type 0 where
  pub taken : List Record
  pub waiting : List Record
  pub room : ℕ

-- all records that came
abbrev pub all_of : Queued → List Record
all_of q = q.taken ++ q.waiting

-- how many bytes of records there is room for still, where 2^64 - 1 records can be counted and each takes some bytes
abbrev pub free_of : Queued → ℕ
free_of q = min (q.room - bytes_of q.waiting) (2 ^ 64 - 1 - length (all_of q))
