use Rattle.std.proofs.Common.{◌≡◌, ◌-◌, true}
use Rattle.ifdb_row.specs.Writes.{are_fitting}
use Rattle.ifdb_redo.specs.Reading.{items_at, write_at}
use Rattle.ifdb_redo.proofs.Loop.{with_front}
use Rattle.ifdb_redo.proofs.reading.write_items.Given as goal

abbrev pub invariant-loop : goal.invariant-loop
invariant-loop l = record {
  read : with_front l.writes.items (items_at write_at (l.count - l.counter) l.rest) ≡ items_at write_at l.count l.bytes;
  fitting : are_fitting l.writes.items ≡ true;
}
