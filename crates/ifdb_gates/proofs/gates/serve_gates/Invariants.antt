use Rattle.std.proofs.Common.{length, ◌+◌, ◌≤◌, vec_capacity}
use Rattle.ifdb_gates.specs.Crew.{Joining}
use Rattle.ifdb_gates.proofs.gates.serve_gates.Given as goal

abbrev pub invariant-loop-worker : goal.invariant-loop-worker
invariant-loop-worker g l =
    Joining g.Q.Records g.S.Settles g.G.Gate l.hall l.fn.key l.fn.limit l.fn.keeper g.G.Port.Port l.fn.pass l.pass l.keeper l.fn.gates.items l.worker-iterator.rest.items l.back.items
    × (length l.back.items + length l.worker-iterator.rest.items ≤ vec_capacity l.back)
