use Rattle.std.proofs.Common.{◌≡◌, ◌-◌}
use Rattle.ifdb_redo.specs.Reading.{items_at, slot_at}
use Rattle.ifdb_redo.proofs.Loop.{with_front}
use Rattle.ifdb_redo.proofs.reading.slot_items.Given as goal

abbrev pub invariant-loop : goal.invariant-loop
invariant-loop l = with_front l.slots.items (items_at slot_at (l.count - l.counter) l.rest) ≡ items_at slot_at l.count l.bytes
