use Rattle.std.proofs.Common.{◌≡◌, length, ◌-◌, ◌≤◌, take}
use Rattle.std.specs.Io.KnownBytes.{Appends}
use Rattle.ifdb_io.proofs.writes.write_all.Given as goal

-- the bytes before the index were written
abbrev pub invariant-loop-done : goal.invariant-loop-done
invariant-loop-done g l = record {
  in_range : l.done ≤ length l.bytes;
  written : Appends (g.W.Sink.written l.fn.sink) (g.W.Sink.written l.sink) (take l.done l.bytes);
  kept : g.W.Sink.faults l.sink ≡ g.W.Sink.faults l.fn.sink;
  beside : g.W.Sink.beside l.sink ≡ g.W.Sink.beside l.fn.sink;
}

abbrev pub decreases-loop-done : goal.decreases-loop-done
decreases-loop-done g l = length l.bytes - l.done
