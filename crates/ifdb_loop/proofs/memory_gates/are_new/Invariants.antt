use Rattle.std.proofs.Common.{◌≡◌, [], All, take}
use Rattle.ifdb_loop.proofs.memory_gates.are_new.Given as goal

-- the gates before the index are new
abbrev pub invariant-loop-gate : goal.invariant-loop-gate
invariant-loop-gate l = record {
  none_out : All (λ gate. gate.out ≡ 0) (take l.gate-index l.gates);
  none_back : All (λ gate. gate.back.items ≡ []) (take l.gate-index l.gates);
}
