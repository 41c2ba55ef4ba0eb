use Rattle.std.proofs.Common.{◌≡◌, ◌+◌, All, vec_len}
use Rattle.ifdb_ready.proofs.tcp_gates.gates_at.Given as goal

-- one gate is still to come, and no connection has come through the others
abbrev pub invariant-loop : goal.invariant-loop
invariant-loop g l = (vec_len l.gates + 1 ≡ l.counter) × All (λ gate. gate.out ≡ 0) l.gates.items
