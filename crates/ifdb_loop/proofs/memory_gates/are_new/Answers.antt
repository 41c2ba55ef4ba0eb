use Rattle.std.proofs.Common.{◌≡◌, [], All, arith, rules, subst}
use Rattle.std.proofs.lemmas.List.{take_all}
use Rattle.std.proofs.lemmas.List.Elements.{All-more}
use Rattle.ifdb_loop.proofs.memory_gates.are_new.Goals as goal

pub loop-gate-preserved : goal.loop-gate-preserved
loop-gate-preserved c = record {
  none_out = All-more (λ gate. gate.out ≡ 0) c.args.gates.now c.loop-gate.gate-index c.gate-item.result (search rules) c.loop-gate.invariant.none_out (search rules);
  none_back = All-more (λ gate. gate.back.items ≡ []) c.args.gates.now c.loop-gate.gate-index c.gate-item.result (search rules) c.loop-gate.invariant.none_back (search rules);
}

pub returns-clause-none_out : goal.returns-clause-none_out
returns-clause-none_out c = λ _. subst (All (λ gate. gate.out ≡ 0)) (take_all c.loop-gate.gate-index c.args.gates.now (omega (arith, c.loop-gate-test.false, c.loop-gate.auto.gate-index-end))) c.loop-gate.invariant.none_out

pub returns-clause-none_back : goal.returns-clause-none_back
returns-clause-none_back c = λ _. subst (All (λ gate. gate.back.items ≡ [])) (take_all c.loop-gate.gate-index c.args.gates.now (omega (arith, c.loop-gate-test.false, c.loop-gate.auto.gate-index-end))) c.loop-gate.invariant.none_back
