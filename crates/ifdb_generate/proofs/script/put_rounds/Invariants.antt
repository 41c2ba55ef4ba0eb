use Rattle.std.proofs.Common.{◌≡◌, ◌++◌, ◌<◌}
use Rattle.ifdb_generate.specs.Script.{drawn, rounds}
use Rattle.ifdb_generate.proofs.script.put_rounds.Given as goal

-- the rounds so far are put, and what was drawn for the last of them
abbrev pub invariant-loop-done : goal.invariant-loop-done
invariant-loop-done l = (l.text.items ≡ l.fn.text.items ++ rounds l.size l.done) × ((l.draw ≡ drawn l.done) × (l.draw < 65537))
