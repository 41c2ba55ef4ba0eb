use Rattle.std.proofs.Common.{vec_capacity, vec_len}
use Rattle.ifdb_gates.specs.Crew.{Hiring}
use Rattle.ifdb_gates.proofs.workers.hire.Given as goal

abbrev pub invariant-loop-gate : goal.invariant-loop-gate
invariant-loop-gate g l =
    Hiring g.Q.Records g.S.Settles g.G.Gate l.hall l.key l.limit l.fn.keeper l.fn.pass l.pass l.keeper l.fn.gates.items l.workers.items l.gate-iterator.rest.items (vec_capacity l.workers) (vec_len l.means)
