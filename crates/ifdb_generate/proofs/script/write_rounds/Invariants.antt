use Rattle.std.proofs.Common.{◌≡◌, ◌<◌}
use Rattle.std.specs.Io.KnownBytes.{Appends}
use Rattle.ifdb_generate.specs.Script.{drawn, rounds}
use Rattle.ifdb_generate.proofs.script.write_rounds.Given as goal

-- the rounds so far are written, without a fault, and what was drawn for the last of them
abbrev pub invariant-loop-done : goal.invariant-loop-done
invariant-loop-done g l =
    (Appends (g.W.Sink.written l.fn.output) (g.W.Sink.written l.output) (rounds l.size l.done))
    × ((g.W.Sink.faults l.output ≡ g.W.Sink.faults l.fn.output) × ((l.draw ≡ drawn l.done) × (l.draw < 65537)))
