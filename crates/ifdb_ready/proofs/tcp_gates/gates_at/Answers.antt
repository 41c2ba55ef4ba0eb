use Rattle.std.proofs.Common.{◌≡◌, arith}
use Rattle.std.proofs.lemmas.List.Elements.{All-push}
use Rattle.ifdb_ready.specs.declared.tcp_gate.TcpGate.{TcpGate}
use Rattle.ifdb_ready.proofs.tcp_gates.gates_at.Goals as goal

pub loop-preserved : goal.loop-preserved
loop-preserved g c = (
  omega (arith, c.loop.invariant.0, c.in_ok-push-2.ensures.len),
  rw c.in_ok-push-2.ensures.items
      (All-push (λ (gate : TcpGate g.row.R.Denot). gate.out ≡ 0) c.loop.gates.items c.in_ok-gate.gate c.loop.invariant.1 c.in_ok-gate.ensures),
)

pub returns-clause-none_out : goal.returns-clause-none_out
returns-clause-none_out g c =
    let new : c.listen.new.self.out ≡ 0 = rw c.listen.ensures c.in_ok-last.ensures in
    rw c.in_ok-push-4.ensures.items (All-push (λ (gate : TcpGate g.row.R.Denot). gate.out ≡ 0) c.loop.gates.items c.listen.new.self c.loop.invariant.1 new)
